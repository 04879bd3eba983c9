-- No second outcome fits: each public function, in the order of the sources. Assumes nothing.
use mathlib.Core.Path.{◌≡◌, refl}
use Rattle.std.specs.Prelude.{ℕ, ◌<◌, List, [], Option, Some, None, length}
use Rattle.std.specs.Borrow.{Bor}
use Rattle.std.proofs.Common.{◌∙◌, sym, ap, arith, is_some, true≢false}
use Rattle.lists.specs.OneOutcome.{OneOutcome, OneOutcomeAmong}
use Rattle.lists.specs.Laws.OneAnswer.{same, ◌&◌}
use Rattle.replay.specs.Words.{word_of, TakesWord}
use Rattle.replay.specs.contracts as contract
use Rattle.replay.proofs as fn

pub hex : OneOutcome contract.hex.ended fn.hex.Reads.Post
hex κs args o o' p q = same p q & refl

pub decimal : OneOutcome contract.decimal.ended fn.decimal.Reads.Post
decimal κs args o o' p q = same p q & refl

pub words_new : OneOutcome contract.Words.new.ended fn.Words.new.Reads.Post
words_new κs args o o' p q = same p q & refl

empty : (text : List ℕ) (w : Bor (List ℕ)) → word_of text ≡ [] → w.now ≡ word_of text → 0 < length w.now → ⊥
empty text w none is some = let e : length w.now ≡ 0 = ap length (is ∙ none) in omega arith

-- `next` hands out a part of the text: what it says of that part is what stands there
abbrev pub seen : Option (Bor (List ℕ)) → Option (List ℕ)
seen None = None
seen (Some w) = Some w.now

-- two words that the definition allows read the same and leave the same, wherever they lie
pub words_taken : (text rest rest' : List ℕ) (r r' : Option (Bor (List ℕ))) → TakesWord text r rest → TakesWord text r' rest' → (seen r ≡ seen r') × (rest ≡ rest')
words_taken text rest rest' None None p q = (refl, same p.0 q.0)
words_taken text rest rest' None (Some w) p q = absurd (empty text w p.1 q.1.0 q.1.1)
words_taken text rest rest' (Some w) None p q = absurd (empty text w q.1 p.1.0 p.1.1)
words_taken text rest rest' (Some v) (Some w) p q = (ap Some (same p.1.0 q.1.0), same p.0 q.0)

-- where a part lies is no part of the answer
abbrev pub lies : ℕ × ℕ → Option (Bor (List ℕ)) → Type 0
lies place None = Unit {0}
lies place (Some w) = w.ref_ptr ≡ place

by_lent : {v w : Bor (List ℕ)} → v.ref_ptr ≡ w.ref_ptr → v.now ≡ w.now → v ≡ w
by_lent place now = λ i. record { ref_ptr = place i; now = now i }

held : Option (List ℕ) → List ℕ
held None = []
held (Some word) = word

-- of those at one place, no second fits
module _ (place : ℕ × ℕ) where
  placed : (r r' : Option (Bor (List ℕ))) → lies place r → lies place r' → seen r ≡ seen r' → r ≡ r'
  unfolding held
  placed None None p q e = refl
  placed None (Some w) p q e = absurd (true≢false (sym (ap is_some e)))
  placed (Some w) None p q e = absurd (true≢false (ap is_some e))
  placed (Some v) (Some w) p q e = ap Some (by_lent (same p q) (ap held e))

  taken : (text rest rest' : List ℕ) (r r' : Option (Bor (List ℕ))) → lies place r × TakesWord text r rest → lies place r' × TakesWord text r' rest' → (r ≡ r') × (rest ≡ rest')
  taken text rest rest' r r' p q = let e = words_taken text rest rest' r r' p.1 q.1 in (placed r r' p.0 q.0 e.0, e.1)

  pub words_next : OneOutcomeAmong contract.WordsIterator.next.ended (λ κs r. lies place r) fn.WordsIterator.next.Reads.Post
  words_next κs args o o' p q = let e = taken args.0.now o.1.0 o'.1.0 o.0 o'.0 (p.0, p.1.0) (q.0, q.1.0) in e.0 & e.1 & refl

pub words_hex : OneOutcome contract.Words.hex.ended fn.Words.hex.Reads.Post
words_hex κs args o o' p q = same p.0 q.0 & same p.1 q.1 & refl

pub words_hex32 : OneOutcome contract.Words.hex32.ended fn.Words.hex32.Reads.Post
words_hex32 κs args o o' p q = same p.0 q.0 & same p.1 q.1 & refl

pub words_decimal : OneOutcome contract.Words.decimal.ended fn.Words.decimal.Reads.Post
words_decimal κs args o o' p q = same p.0 q.0 & same p.1 q.1 & refl
