-- What the programs read that replay lists of worked values: words between blanks, and numbers in hexadecimal and in decimal. Definitions only; assumes
-- nothing.
use Rattle.std.specs.Prelude.{◌≡◌, ℕ, ◌<◌, Option, MatchOption, length, ◌+◌, ◌-◌, ◌*◌, ◌%◌, ◌^◌, Bool, true, false, cond, List, [], leb, ltb, take, drop}
use Rattle.std.specs.Bool.{beq}
use Rattle.std.specs.Borrow.{Bor}
use Rattle.std.specs.List.{take_while, fold}

-- a space, a line's end, or any other byte up to the space
abbrev pub blank : ℕ → Bool
blank b = leb b 32

-- how many elements at the front are all blank, or all not
abbrev pub leading : Bool → List ℕ → ℕ
leading kind text = length (take_while (λ b. beq (blank b) kind) text)

-- where the next word of a text starts, and the place past its last byte
abbrev pub start_of : List ℕ → ℕ
start_of text = leading true text

abbrev pub end_of : List ℕ → ℕ
end_of text = start_of text + leading false (drop (start_of text) text)

-- that word
abbrev pub word_of : List ℕ → List ℕ
word_of text = take (end_of text - start_of text) (drop (start_of text) text)

-- That word comes off the front, and what lies past it is left. Where there is none, nothing comes and nothing is left.
abbrev pub TakesWord : List ℕ → Option (Bor (List ℕ)) → List ℕ → Type 0
TakesWord text word rest =
    (rest ≡ drop (end_of text) text)
    × MatchOption word (word_of text ≡ []) (λ w. (w.now ≡ word_of text) × (0 < length w.now))

-- what a reader leaves: an end of the text that there was
abbrev pub EndOf : (text rest : List ℕ) → Type 0
EndOf text rest = rest ≡ drop (length text - length rest) text

-- the value of a digit 0..9 or A..F, and 0 of any other byte
abbrev pub digit_of : ℕ → ℕ
digit_of b = cond (ltb b 48) 0 (cond (ltb b 58) (b - 48) (cond (ltb b 65) 0 (cond (ltb b 71) (b - 55) 0)))

-- the number that digits of a base spell after v; of v only what lies below `most` is carried on
abbrev pub spelled : (base most v : ℕ) → List ℕ → ℕ
spelled base most v word = fold (λ n b. n % most * base + digit_of b) v word

-- in hexadecimal, modulo 2 ^ 64: the last sixteen digits count
abbrev pub hex_of : List ℕ → ℕ
hex_of = spelled 16 (2 ^ 60) 0

-- in decimal, modulo 10 ^ 19, which is below 2 ^ 64: the last nineteen digits count
abbrev pub decimal_of : List ℕ → ℕ
decimal_of = spelled 10 (10 ^ 18) 0
