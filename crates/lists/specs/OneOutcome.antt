-- No second outcome fits: what that says of a function. A call's outcome is its result and, at exit, what stands behind each `&mut` that it was lent. The
-- contract is the one in the source: of a function f, `f.ended` is its signature and `f.Reads.Post` what its `ensures` says. Definitions only; assumes nothing.
use Rattle.std.specs.Prelude.{◌≡◌}
use contract.Lifetimes.{Lfts}
use denote.Triple.Entry.{Args, Res}
use denote.Triple.Clauses.{Ended, Lasts, AtExit, at_exit}

-- at most one outcome meets the contract
abbrev pub Tight : {A : Type 0} → (A → Type 0) → Type 0
Tight {A} meets = (a b : A) → meets a → meets b → a ≡ b

-- ---- of a function

-- what a contract's `ensures` says: of the arguments, the result, and what is seen of the parameters at exit
abbrev pub Says : Ended → Type 1
Says f = (κs : Lfts f.signature.lifetimes) → Args f.signature κs → Res f.signature κs → AtExit f κs → Type 0

-- whatever the arguments: at most one result, with at most one last value behind each `&mut`
abbrev pub OneOutcome : (f : Ended) → Says f → Type 0
OneOutcome f says =
    (κs : Lfts f.signature.lifetimes) (args : Args f.signature κs) →
    Tight (λ (o : Res f.signature κs × Lasts f κs args). says κs args o.0 (at_exit f κs args o.1))

-- the same among the results that the type allows: an array's type says how long it is, so its contract need not
abbrev pub OneOutcomeAmong : (f : Ended) → ((κs : Lfts f.signature.lifetimes) → Res f.signature κs → Type 0) → Says f → Type 0
OneOutcomeAmong f allows says = OneOutcome f (λ κs args r at-exit. allows κs r × says κs args r at-exit)

-- the same of what is seen of an outcome, where a type holds more than a clause speaks of
abbrev pub OneOutcomeSeen : (f : Ended) {B : Type 0} → ((κs : Lfts f.signature.lifetimes) (args : Args f.signature κs) → Res f.signature κs × Lasts f κs args → B) → Says f → Type 0
OneOutcomeSeen f seen says =
    (κs : Lfts f.signature.lifetimes) (args : Args f.signature κs) (o o' : Res f.signature κs × Lasts f κs args)
    → says κs args o.0 (at_exit f κs args o.1) → says κs args o'.0 (at_exit f κs args o'.1) → seen κs args o ≡ seen κs args o'
