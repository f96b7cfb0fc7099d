-- The key of the last point, copied to the stretch of another; then 0 in its own.
use Rattle.std.proofs.Common.{◌≡◌, ℕ, ◌+◌, ◌*◌, ◌-◌, ◌≤◌, List, ◌++◌, ℤ, pos, length, take, drop, replicate, sym, ap, ap₂, ◌∙◌, append_assoc, arith, length-drop}
use Rattle.std.proofs.lemmas.List.{length-replicate}
use borrow.Rule.Slice.PartMut.{put_mid}
use lib.Seq.{paste, drop-drop, length-take-le}
use Rattle.whole.specs.Lists.{splice}
use Rattle.index.specs.Keys.{key_at}
use Rattle.index.proofs.Equality.{key_part, key_at_length}

module _ (d i last : ℕ) (l m s : List ℤ) (fit : d * last + d ≤ length l) (e : m ≡ paste l (d * i) (drop (d * last) l) (d * last + d - d * last)) where
  own : d * last + d - d * last ≡ d
  own = omega arith

  moved : m ≡ splice l (d * i) (key_at d l last)
  moved = e ∙ ap (paste l (d * i) (drop (d * last) l)) own ∙ append_assoc (take (d * i) l) (take d (drop (d * last) l)) (drop (d * i + d) l)
      ∙ ap₂ (λ (k : List ℤ) (n : ℕ). take (d * i) l ++ (k ++ drop (d * i + n) l)) (ap (λ n. take n (drop (d * last) l)) (sym own) ∙ key_part d l last fit) (sym (key_at_length d l last))

  pub key_gone : length m ≡ length l → s ≡ replicate (length (take (d * last + d - d * last) (drop (d * last) m))) (pos 0)
      → put_mid (d * last) (d * last + d - d * last) m s ≡ splice (splice l (d * i) (key_at d l last)) (d * last) (replicate d (pos 0))
  key_gone size f =
      let x : length (take (d * last + d - d * last) (drop (d * last) m)) ≡ d = ap (λ n. length (take n (drop (d * last) m))) own ∙ length-take-le d (drop (d * last) m) (omega (arith, length-drop (d * last) m)) in
      ap (λ n. put_mid (d * last) n m s) own
      ∙ ap (put_mid (d * last) d m) (f ∙ ap (λ n. replicate n (pos 0)) x)
      ∙ ap (λ v. take (d * last) m ++ (replicate d (pos 0) ++ v)) (drop-drop d (d * last) m ∙ ap (λ n. drop (d * last + n) m) (sym (length-replicate d (pos 0))))
      ∙ ap (λ v. splice v (d * last) (replicate d (pos 0))) moved
