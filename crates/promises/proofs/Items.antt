-- When an item of a log is refused by its form: each number is met exactly when its condition holds and no earlier one does.
use mathlib.Core.Path.{◌≡◌, refl, sym, ap, subst, ◌∙◌}
use mathlib.Core.Logic.{◌⊎◌, inl, inr}
use mathlib.Core.Bool.{Bool, true, false, cond}
use mathlib.Core.List.{List}
use Prim.Native.Nat.{ℕ, zero, suc, ◌+◌, ◌≤◌, ◌<◌}
use native.Mathlib.Decide.{ℕ_discrete}
use native.Mathlib.Omega.{arith}
use lib.Dec.{T, eqb, leb}
use lib.ListN.{length}
use borrow.Author.Tests.{leb-true, leb-false, le-leb, lt-leb}
use Rattle.whole.proofs.Tests.{T_true, T_false}
use Rattle.lattice.specs.Refusals.{first, kind_not_listed, settings_misplaced, other_dimension, body_cut}
use Rattle.table.proofs.Refusals.{T_of}
use Rattle.reader.specs.Bytes.{byte_at}
use Rattle.reader.specs.Kinds.{kind_of, body_length, is_listed, placed, of_dimension}
use Rattle.reader.specs.declared.kinds.Kind.{Kind}
use Rattle.reader.specs.Items.{Of, settings_of, form_refusal, unless, end_at, item_at, number_of}
use Rattle.promises.specs.Refusals.{Not}
use Rattle.promises.specs.LogRefusals.{ItemRefused}

-- ---- the number of an item is that of its form
form_number : (x : ℕ) (k : Kind) → number_of (unless x (Of k)) ≡ x
form_number zero k = refl
form_number (suc x) k = refl

module _ (l : List ℕ) (a : ℕ) where
  abbrev k : Kind
  k = kind_of (byte_at l a)

  abbrev number : ℕ
  number = number_of (item_at l a)

  there : a < length l → number ≡ form_refusal l a k
  unfolding item_at
  there h = rw (lt-leb (length l) a h) (form_number (form_refusal l a k) k)

  past : length l ≤ a → number ≡ number_of (end_at a)
  unfolding item_at
  past h = rw (le-leb (length l) a h) refl

  -- ---- the tests, and where the body ends
  abbrev listed : Bool
  listed = is_listed k

  abbrev stands : Bool
  stands = placed k a

  abbrev alike : Bool
  alike = of_dimension (settings_of l).d k

  abbrev end : ℕ
  end = suc a + body_length k

  -- ---- the condition of each number
  abbrev Twelve : Type 0
  Twelve = (a < length l) × Not (T listed)

  abbrev Thirteen : Type 0
  Thirteen = ((a < length l) × T listed × Not (T stands)) ⊎ ((length l ≡ 0) × (a ≡ 0))

  abbrev Fourteen : Type 0
  Fourteen = (a < length l) × T listed × T stands × Not (T alike)

  abbrev Fifteen : Type 0
  Fifteen = (a < length l) × T listed × T stands × T alike × (length l < end)

  abbrev None : Type 0
  None = ((a < length l) × T listed × T stands × T alike × (end ≤ length l)) ⊎ ((length l ≤ a) × (0 < a))

  -- where it holds, the number is that one
  is_twelve : Twelve → number ≡ kind_not_listed
  unfolding form_refusal first
  is_twelve (h, u) = there h ∙ rw (T_false listed u) refl

  is_thirteen : Thirteen → number ≡ settings_misplaced
  unfolding form_refusal first
  is_thirteen (inl (h, t, u)) = there h ∙ rw (T_true listed t, T_false stands u) refl
  is_thirteen (inr (e, z)) = past (omega arith) ∙ ap (λ (a : ℕ). number_of (end_at a)) z

  is_fourteen : Fourteen → number ≡ other_dimension
  unfolding form_refusal first
  is_fourteen (h, t, p, u) = there h ∙ rw (T_true listed t, T_true stands p, T_false alike u) refl

  is_fifteen : Fifteen → number ≡ body_cut
  unfolding form_refusal first
  is_fifteen (h, t, p, q, u) = there h ∙ rw (T_true listed t, T_true stands p, T_true alike q, lt-leb end (length l) u) refl

  is_none : None → number ≡ 0
  unfolding form_refusal first
  is_none (inl (h, t, p, q, u)) = there h ∙ rw (T_true listed t, T_true stands p, T_true alike q, le-leb end (length l) u) refl
  is_none (inr (h, s)) = past h ∙ later a s
    where
      later : (a : ℕ) → 0 < a → number_of (end_at a) ≡ 0
      later zero s = absurd (omega arith)
      later (suc a) s = refl

  -- ---- one of them holds: what is the case where the number is x
  abbrev Case : ℕ → Type 0
  Case x = cond (eqb x kind_not_listed) Twelve (cond (eqb x settings_misplaced) Thirteen (cond (eqb x other_dimension) Fourteen (cond (eqb x body_cut) Fifteen None)))

  since : (x : ℕ) → (Case x → number ≡ x) → Case x → Case number
  since x f p = subst Case (sym (f p)) p

  by_tests : (b₁ b₂ b₃ b₄ : Bool) → listed ≡ b₁ → stands ≡ b₂ → alike ≡ b₃ → leb end (length l) ≡ b₄ → a < length l → Case number
  by_tests false b₂ b₃ b₄ e₁ e₂ e₃ e₄ h = since kind_not_listed is_twelve (h, subst T e₁)
  by_tests true false b₃ b₄ e₁ e₂ e₃ e₄ h = since settings_misplaced is_thirteen (inl (h, T_of e₁, subst T e₂))
  by_tests true true false b₄ e₁ e₂ e₃ e₄ h = since other_dimension is_fourteen (h, T_of e₁, T_of e₂, subst T e₃)
  by_tests true true true false e₁ e₂ e₃ e₄ h = since body_cut is_fifteen (h, T_of e₁, T_of e₂, T_of e₃, leb-false end (length l) e₄)
  by_tests true true true true e₁ e₂ e₃ e₄ h = since 0 is_none (inl (h, T_of e₁, T_of e₂, T_of e₃, leb-true end (length l) e₄))

  at_end : length l ≤ a → Dec (a ≡ 0) → Case number
  at_end h (yes z) = since settings_misplaced is_thirteen (inr (omega arith, z))
  at_end h (no s) = since 0 is_none (inr (h, omega arith))

  case : Case number
  case = by_end (leb (length l) a) refl
    where
      by_end : (b : Bool) → leb (length l) a ≡ b → Case number
      by_end true e = at_end (leb-true (length l) a e) (ℕ_discrete a 0)
      by_end false e = by_tests _ _ _ _ refl refl refl refl (leb-false (length l) a e)

pub items_refused : (l : List ℕ) (a : ℕ) → ItemRefused l a (kind_of (byte_at l a))
items_refused l a = record {
  twelve = (told kind_not_listed, is_twelve l a);
  thirteen = (told settings_misplaced, is_thirteen l a);
  fourteen = (told other_dimension, is_fourteen l a);
  fifteen = (told body_cut, is_fifteen l a);
  none = (told 0, is_none l a);
}
  where
    told : (x : ℕ) → number_of (item_at l a) ≡ x → Case l a x
    told x e = subst (Case l a) e (case l a)
