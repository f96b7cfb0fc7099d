-- What an outcome tells: 0 where nothing is refused, and no refusal has the number 0.
use Rattle.std.proofs.Common.{◌≡◌, ◌<◌, ◌∙◌, refl, sym, ap, eqb, cond, ℕ, true, false, Result, Ok, Err, arith}
use borrow.Author.Tests.{ne_eqb}
use Rattle.std.specs.Result.{is_err, is_ok}
use Rattle.lattice.specs.declared.refusals.Refusal.{Refusal}
use Rattle.lattice.specs.declared.refusals.Refusal.TheVariants.{SettingsOutOfRange, OtherLength, NotSound, CoordinateBeyond, SumNotZero, ValueBeyond, TooManyReadings, TooManyPoints, SettingsDiffer, NoPointMet, NoMassMet, KindNotListed, SettingsMisplaced, OtherDimension, BodyCut, ProgramLimit, RawOutOfRange, NumberNotHeld, NumberHeld}
use Rattle.lattice.specs.Refusals.{number, told}

pub above_0 : (r : Refusal) → 0 < number r
above_0 SettingsOutOfRange = omega arith
above_0 OtherLength = omega arith
above_0 NotSound = omega arith
above_0 CoordinateBeyond = omega arith
above_0 SumNotZero = omega arith
above_0 ValueBeyond = omega arith
above_0 TooManyReadings = omega arith
above_0 TooManyPoints = omega arith
above_0 SettingsDiffer = omega arith
above_0 NoPointMet = omega arith
above_0 NoMassMet = omega arith
above_0 KindNotListed = omega arith
above_0 SettingsMisplaced = omega arith
above_0 OtherDimension = omega arith
above_0 BodyCut = omega arith
above_0 ProgramLimit = omega arith
above_0 RawOutOfRange = omega arith
above_0 NumberNotHeld = omega arith
above_0 NumberHeld = omega arith

-- a refusal's number is none that tells of nothing
pub number_not_0 : (r : Refusal) → number r ≡ 0 → ⊥
number_not_0 r e = let p = above_0 r in absurd (omega arith)

-- an outcome is refused exactly where it tells a number
pub err_tells : {A : Type 0} (r : Result A Refusal) → is_err r ≡ true → told r ≡ 0 → ⊥
err_tells (Ok _) e z = cc
err_tells (Err why) e z = number_not_0 why z

pub ok_tells : {A : Type 0} (r : Result A Refusal) → is_err r ≡ false → told r ≡ 0
ok_tells (Ok _) e = refl
ok_tells (Err why) e = cc

-- as a test
pub ok_is : {A : Type 0} (r : Result A Refusal) (x : ℕ) → told r ≡ x → is_ok r ≡ eqb x 0
ok_is (Ok _) x e = ap (λ n. eqb n 0) e
ok_is (Err why) x e = sym (ne_eqb x 0 (λ z. number_not_0 why (e ∙ z)))

-- ---- no two refusals have one number
of_number : ℕ → Refusal
of_number n = cond (eqb n 1) SettingsOutOfRange (cond (eqb n 2) OtherLength (cond (eqb n 3) NotSound (cond (eqb n 4) CoordinateBeyond (cond (eqb n 5) SumNotZero (cond (eqb n 6) ValueBeyond (cond (eqb n 7) TooManyReadings (cond (eqb n 8) TooManyPoints (cond (eqb n 9) SettingsDiffer (cond (eqb n 10) NoPointMet (cond (eqb n 11) NoMassMet (cond (eqb n 12) KindNotListed (cond (eqb n 13) SettingsMisplaced (cond (eqb n 14) OtherDimension (cond (eqb n 15) BodyCut (cond (eqb n 16) ProgramLimit (cond (eqb n 17) RawOutOfRange (cond (eqb n 19) NumberNotHeld (NumberHeld))))))))))))))))))

of_its : (r : Refusal) → of_number (number r) ≡ r
unfolding of_number
of_its SettingsOutOfRange = refl
of_its OtherLength = refl
of_its NotSound = refl
of_its CoordinateBeyond = refl
of_its SumNotZero = refl
of_its ValueBeyond = refl
of_its TooManyReadings = refl
of_its TooManyPoints = refl
of_its SettingsDiffer = refl
of_its NoPointMet = refl
of_its NoMassMet = refl
of_its KindNotListed = refl
of_its SettingsMisplaced = refl
of_its OtherDimension = refl
of_its BodyCut = refl
of_its ProgramLimit = refl
of_its RawOutOfRange = refl
of_its NumberNotHeld = refl
of_its NumberHeld = refl

pub one_number : (r q : Refusal) → number r ≡ number q → r ≡ q
one_number r q e = sym (of_its r) ∙ ap of_number e ∙ of_its q

pub one_told : (r q : Result (Unit {0}) Refusal) → told r ≡ told q → r ≡ q
one_told (Ok _) (Ok _) e = refl
one_told (Ok _) (Err w) e = absurd (number_not_0 w (sym e))
one_told (Err w) (Ok _) e = absurd (number_not_0 w e)
one_told (Err w) (Err v) e = ap (λ (x : Refusal). Err x) (one_number w v e)
