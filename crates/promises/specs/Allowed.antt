-- What it is that a contract allows one outcome, of the contract itself, as the checker reads it off the code that it proves. Of a function `F` of a crate `c`, `Rattle.c.specs.contracts.F` has
-- its parameters and its result, as `ended`, and `Rattle.c.proofs.F.Reads` its clauses as they are read: `Reads.Post` is what has to be shown for its `ensures`, `Reads.Learnt` what a caller learns from it, and `Reads.Asked` what a caller has to show for its `requires`. For a clause that is a plain fact, as all are here, these are that fact.
use Rattle.std.specs.Prelude.{◌≡◌, List, ℤ, Option, Some, None}
use Rattle.std.specs.Borrow.{Bor}
use contract.Lifetimes.{Lfts}
use denote.Triple.Entry.{Args, Res}
use denote.Triple.Clauses.{Ended, Lasts, AtExit, at_exit}

-- "two outcomes allowed by a contract are equal",
abbrev pub Only : {A : Type 0} → (A → Type 0) → Type 0
Only {A} Allows = (a b : A) → Allows a → Allows b → a ≡ b

-- Exactly one outcome is allowed: this one, and no other.
pub record One {A : Type 0} (Allows : A → Type 0) : Type 0 where
  pub outcome : A
  pub allowed : Allows outcome
  pub only : Only Allows

-- An `ensures`: of the lifetimes and the arguments, the answer, and the arguments as the function leaves them.
abbrev pub Ensures : Ended → Type 1
Ensures F = (κs : Lfts F.signature.lifetimes) → Args F.signature κs → Res F.signature κs → AtExit F κs → Type 0

-- A `requires`: of the lifetimes and the arguments.
abbrev pub Requires : Ended → Type 1
Requires F = (κs : Lfts F.signature.lifetimes) → Args F.signature κs → Type 0

-- an outcome of a call: the answer, and the final contents of all memory that was lent to be changed
abbrev pub AnswerAndMemory : (F : Ended) (κs : Lfts F.signature.lifetimes) → Args F.signature κs → Type 0
AnswerAndMemory F κs a = Res F.signature κs × Lasts F κs a

-- that the `ensures` of a function allows an outcome
abbrev pub Allows : (F : Ended) → Ensures F → (κs : Lfts F.signature.lifetimes) (a : Args F.signature κs) → AnswerAndMemory F κs a → Type 0
Allows F ensures κs a o = ensures κs a o.0 (at_exit F κs a o.1)

-- "a contract that gives its one possible answer and the final contents of all memory lent to it, on every input and on each refusal": an outcome that can be shown, no other one that a caller
-- could learn, and nothing that is asked of the input.
pub record Answering (F : Ended) (shown learnt : Ensures F) (asked : Requires F) : Type 0 where
  pub one_outcome : (κs : Lfts F.signature.lifetimes) (a : Args F.signature κs) → One (Allows F shown κs a)
  pub no_other : (κs : Lfts F.signature.lifetimes) (a : Args F.signature κs) → Only (Allows F learnt κs a)
  pub asks_nothing : (κs : Lfts F.signature.lifetimes) (a : Args F.signature κs) → asked κs a

-- Of a function that asks something of its callers: there is no second outcome.
abbrev pub OnlyOutcome : (F : Ended) → Ensures F → Type 0
OnlyOutcome F learnt = (κs : Lfts F.signature.lifetimes) (a : Args F.signature κs) → Only (Allows F learnt κs a)

-- Of a function that hands back a reference into what it is lent: as it is read, wherever it lies, there is no second outcome.
abbrev pub OnlyRead : (F : Ended) {B : Type 0} → ((κs : Lfts F.signature.lifetimes) → Res F.signature κs → B) → Ensures F → Type 0
OnlyRead F read learnt = (κs : Lfts F.signature.lifetimes) (a : Args F.signature κs) (o u : AnswerAndMemory F κs a) → Allows F learnt κs a o → Allows F learnt κs a u → read κs o.0 ≡ read κs u.0

-- what is read behind a reference, where there is one
abbrev pub behind : Option (Bor (List ℤ)) → Option (List ℤ)
behind None = None
behind (Some r) = Some r.now
