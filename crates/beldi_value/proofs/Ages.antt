-- Ages are a total order.
use Rattle.beldi_value.proofs.Names.{Equal, Greater, IntentId, IsTrue, Less, Ordering, ap, false, id_cmp, id_exact, id_total, is_lt, is_older, ordering_reverse, refl, sym, tied_itself, ◌∙◌, ◌≡◌}

less : (o : Ordering) → IsTrue (is_lt o) → o ≡ Less
less Less h = refl
less Equal h = cc
less Greater h = cc

tied : (o : Ordering) → is_lt o ≡ false → is_lt (ordering_reverse o) ≡ false → o ≡ Equal
tied Less h g = cc
tied Equal h g = refl
tied Greater h g = cc

pub not_itself : (a : IntentId) → is_older a a ≡ false
not_itself a = ap is_lt (tied_itself id_total a)

pub further : (a b c : IntentId) → IsTrue (is_older a b) → IsTrue (is_older b c) → IsTrue (is_older a c)
further a b c h g = ap is_lt (id_total.trans a b c (less (id_cmp a b) h) (less (id_cmp b c) g))

pub one_way : (a b : IntentId) → IsTrue (is_older a b) → is_older b a ≡ false
one_way a b h = ap is_lt (id_total.antisymm b a ∙ ap ordering_reverse (less (id_cmp a b) h))

pub either : (a b : IntentId) → is_older a b ≡ false → is_older b a ≡ false → a ≡ b
either a b h g = id_exact a b (tied (id_cmp a b) h (sym (ap is_lt (id_total.antisymm b a)) ∙ g))
