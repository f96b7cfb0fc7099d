-- What is left of the key, hashed from what the loop has of it, is the hash of the key.
use Rattle.std.proofs.Common.{◌≡◌, drop}
use Rattle.index.specs.Keys.{hash}
use Rattle.index.proofs.home.hash_of.Given as goal

abbrev pub invariant-loop-c : goal.invariant-loop-c
invariant-loop-c l = hash 0 l.key ≡ hash l.h (drop l.c-index l.key)
