-- What a test says where it holds.
use Rattle.beldi_core.proofs.Names.{Bool, Equal, Greater, Less, Ordering, T, false, is_lt, refl, true, ◌&&◌, ◌≡◌}

pub first : (a b : Bool) → T (a && b) → T a
first true b p = tt
first false b p = p

pub second : (a b : Bool) → T (a && b) → T b
second true b p = p
second false b p = absurd p

pub test_true : (b : Bool) → T b → b ≡ true
test_true true h = refl
test_true false h = absurd h

pub less : (o : Ordering) → is_lt o ≡ true → o ≡ Less
less Less h = refl
less Equal h = cc
less Greater h = cc
