-- Refusal numbers, and refusals in their order.
use Rattle.std.specs.Prelude.{Bool, true, false, List, [], ◌∷◌, ℕ, Result, Ok, Err}
use Rattle.lattice.specs.declared.refusals.Refusal.{Refusal}
use Rattle.lattice.specs.declared.refusals.Refusal.TheVariants.{SettingsOutOfRange, OtherLength, NotSound, CoordinateBeyond, SumNotZero, ValueBeyond, TooManyReadings, TooManyPoints, SettingsDiffer, NoPointMet, NoMassMet, KindNotListed, SettingsMisplaced, OtherDimension, BodyCut, ProgramLimit, RawOutOfRange, NumberNotHeld, NumberHeld}

-- tests in their order, each with the number that is told where it fails
abbrev pub Tests : Type 0
Tests = List (Bool × ℕ)

-- the number of the first test that fails, and 0 where none does
unfoldable pub first : Tests → ℕ
first [] = 0
first ((true, k) ∷ rest) = first rest
first ((false, k) ∷ rest) = k

-- "1: d, S or C out of range"
-- and so is a book whose room is not "room B, 1 to 4,096 (1 otherwise"
abbrev pub settings_out_of_range : ℕ
settings_out_of_range = 1

-- "2: a lent slice has another length than the settings give, or a list isn't whole items"
abbrev pub other_length : ℕ
other_length = 2

-- "3: the table is not sound"
abbrev pub not_sound : ℕ
not_sound = 3

-- "4: a coordinate is beyond ±1,000,000"
abbrev pub coordinate_beyond : ℕ
coordinate_beyond = 4

-- "5: the coordinates don't sum to 0"
abbrev pub sum_not_zero : ℕ
sum_not_zero = 5

-- "6: a value is beyond ±1,000,000"
abbrev pub value_beyond : ℕ
value_beyond = 6

-- "7: more than 4,096 readings would be held"
-- or more than the book has room for: "7 now comes above B"
abbrev pub too_many_readings : ℕ
too_many_readings = 7

-- "8: more than C points would be stored"
abbrev pub too_many_points : ℕ
too_many_points = 8

-- "9: merge: d or S differ"
abbrev pub settings_differ : ℕ
settings_differ = 9

-- "10: no stored point has weight above 0 for the query"
abbrev pub no_point_met : ℕ
no_point_met = 10

-- "11: one has, but the blurred mass sum is 0"
abbrev pub no_mass_met : ℕ
no_mass_met = 11

-- "12: log: kind byte not listed"
abbrev pub kind_not_listed : ℕ
kind_not_listed = 12

-- "13: log: settings not first, or met again"
-- "13 also for a 02 out of place, or a raw reading without one"
abbrev pub settings_misplaced : ℕ
settings_misplaced = 13

-- "14: log: item of another dimension than the settings"
abbrev pub other_dimension : ℕ
other_dimension = 14

-- "15: log: body cut short"
abbrev pub body_cut : ℕ
body_cut = 15

-- "16: program: log over 16,384 bytes, or C over 512"
abbrev pub program_limit : ℕ
program_limit = 16

-- "17 raw number or multiplier out of range, before 4"
abbrev pub raw_out_of_range : ℕ
raw_out_of_range = 17

-- "19 number not held (withdraw, after 3)"
abbrev pub number_not_held : ℕ
number_not_held = 19

-- "20 number held already (enter and loading, after 6; merge, after 9; never the writer)"
abbrev pub number_held : ℕ
number_held = 20

-- the number of a refusal
abbrev pub number : Refusal → ℕ
number SettingsOutOfRange = settings_out_of_range
number OtherLength = other_length
number NotSound = not_sound
number CoordinateBeyond = coordinate_beyond
number SumNotZero = sum_not_zero
number ValueBeyond = value_beyond
number TooManyReadings = too_many_readings
number TooManyPoints = too_many_points
number SettingsDiffer = settings_differ
number NoPointMet = no_point_met
number NoMassMet = no_mass_met
number KindNotListed = kind_not_listed
number SettingsMisplaced = settings_misplaced
number OtherDimension = other_dimension
number BodyCut = body_cut
number ProgramLimit = program_limit
number RawOutOfRange = raw_out_of_range
number NumberNotHeld = number_not_held
number NumberHeld = number_held

-- the number that an outcome tells, and 0 where nothing is refused
abbrev pub told : {A : Type 0} → Result A Refusal → ℕ
told (Ok _) = 0
told (Err refusal) = number refusal
