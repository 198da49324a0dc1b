-- The bytes of keys are ordered as the keys.
use Rattle.std.specs.Prelude.{◌≡◌, ℕ, zero, suc, ◌/◌, ◌%◌, List, [], ◌∷◌, refl}
use Rattle.std.proofs.Common.{sym, ap, ◌∙◌, arith}
use Rattle.std.proofs.lemmas.Cmp.{nat_list_cmp_total, tied_itself}
use Rattle.std.proofs.lemmas.Bool.Decides.{nat_tests}
use Rattle.std.specs.Ordering.{nat_cmp, ordering_then}
use Rattle.std.specs.declared.cmp.Ordering.{Ordering}
use Rattle.std.specs.declared.cmp.Ordering.TheVariants.{Less, Equal, Greater}
use Rattle.beldi_value.specs.declared.id.IntentId.{IntentId}
use Rattle.beldi_value.specs.Id.{id_cmp}
use Rattle.beldi_row.specs.declared.key.Kind.{Kind}
use Rattle.beldi_row.specs.declared.key.Kind.TheVariants.{Intent, ReadLog, Invoke, Data, Shadow, Lockset}
use Rattle.beldi_row.specs.Key.{kind_cmp}
use Rattle.beldi_row.specs.KeyOrder.{key_exact}
use Rattle.beldi_bytes.specs.KeyBytes.{two, four, hops_bytes, id_bytes, text_bytes, kind_bytes, key_bytes, bytes_cmp, BytesAreOrderedAsKeys, NoTwoKeysHaveOneBytes}

assoc : (a b c : Ordering) → ordering_then a (ordering_then b c) ≡ ordering_then (ordering_then a b) c
assoc Less b c = refl
assoc Equal b c = refl
assoc Greater b c = refl

last : (a : Ordering) → ordering_then a Equal ≡ a
last Less = refl
last Equal = refl
last Greater = refl

-- a number is ordered as its two digits
by_256 : (n m : ℕ) → ordering_then (nat_cmp (n / 256) (m / 256)) (nat_cmp (n % 256) (m % 256)) ≡ nat_cmp n m
by_256 n m = grind (arith, nat_tests)

by_65536 : (n m : ℕ) → ordering_then (nat_cmp (n / 65536) (m / 65536)) (nat_cmp (n % 65536) (m % 65536)) ≡ nat_cmp n m
by_65536 n m = grind (arith, nat_tests)

pub two_is : (n m : ℕ) (s t : List ℕ) → bytes_cmp (two n s) (two m t) ≡ ordering_then (nat_cmp n m) (bytes_cmp s t)
two_is n m s t = assoc (nat_cmp (n / 256) (m / 256)) (nat_cmp (n % 256) (m % 256)) (bytes_cmp s t) ∙ ap (λ o. ordering_then o (bytes_cmp s t)) (by_256 n m)

pub four_is : (n m : ℕ) (s t : List ℕ) → bytes_cmp (four n s) (four m t) ≡ ordering_then (nat_cmp n m) (bytes_cmp s t)
four_is n m s t =
    two_is (n / 65536) (m / 65536) (two (n % 65536) s) (two (m % 65536) t)
    ∙ ap (ordering_then (nat_cmp (n / 65536) (m / 65536))) (two_is (n % 65536) (m % 65536) s t)
    ∙ assoc (nat_cmp (n / 65536) (m / 65536)) (nat_cmp (n % 65536) (m % 65536)) (bytes_cmp s t)
    ∙ ap (λ o. ordering_then o (bytes_cmp s t)) (by_65536 n m)

pub hops_is : (a b s t : List ℕ) → bytes_cmp (hops_bytes a s) (hops_bytes b t) ≡ ordering_then (bytes_cmp a b) (bytes_cmp s t)
hops_is [] [] s t = refl
hops_is [] (y ∷ ys) s t = refl
hops_is (x ∷ xs) [] s t = refl
hops_is (x ∷ xs) (y ∷ ys) s t =
    four_is x y (hops_bytes xs s) (hops_bytes ys t) ∙ ap (ordering_then (nat_cmp x y)) (hops_is xs ys s t) ∙ assoc (nat_cmp x y) (bytes_cmp xs ys) (bytes_cmp s t)

id_is : (a b : IntentId) (s t : List ℕ) → bytes_cmp (id_bytes a s) (id_bytes b t) ≡ ordering_then (id_cmp a b) (bytes_cmp s t)
id_is a b s t =
    four_is a.ticket b.ticket (hops_bytes a.hops s) (hops_bytes b.hops t) ∙ ap (ordering_then (nat_cmp a.ticket b.ticket)) (hops_is a.hops b.hops s t)
    ∙ assoc (nat_cmp a.ticket b.ticket) (bytes_cmp a.hops b.hops) (bytes_cmp s t)

below : (n : ℕ) → nat_cmp 0 (suc n) ≡ Less
below n = grind (arith, nat_tests)

above : (n : ℕ) → nat_cmp (suc n) 0 ≡ Greater
above n = grind (arith, nat_tests)

pub text_is : (a b s t : List ℕ) → bytes_cmp (text_bytes a s) (text_bytes b t) ≡ ordering_then (bytes_cmp a b) (bytes_cmp s t)
text_is [] [] s t = refl
text_is [] (zero ∷ ys) s t = refl
text_is [] (suc y ∷ ys) s t = ap (λ o. ordering_then o (bytes_cmp (0 ∷ s) (text_bytes ys t))) (below y)
text_is (zero ∷ xs) [] s t = refl
text_is (suc x ∷ xs) [] s t = ap (λ o. ordering_then o (bytes_cmp (text_bytes xs s) (0 ∷ t))) (above x)
text_is (zero ∷ xs) (zero ∷ ys) s t = text_is xs ys s t
text_is (zero ∷ xs) (suc y ∷ ys) s t = ap (λ o. ordering_then o (bytes_cmp (255 ∷ text_bytes xs s) (text_bytes ys t))) (below y) ∙ ap (λ o. ordering_then (ordering_then o (bytes_cmp xs ys)) (bytes_cmp s t)) (sym (below y))
text_is (suc x ∷ xs) (zero ∷ ys) s t = ap (λ o. ordering_then o (bytes_cmp (text_bytes xs s) (255 ∷ text_bytes ys t))) (above x) ∙ ap (λ o. ordering_then (ordering_then o (bytes_cmp xs ys)) (bytes_cmp s t)) (sym (above x))
text_is (suc x ∷ xs) (suc y ∷ ys) s t = ap (ordering_then (nat_cmp (suc x) (suc y))) (text_is xs ys s t) ∙ assoc (nat_cmp (suc x) (suc y)) (bytes_cmp xs ys) (bytes_cmp s t)

-- a place, and a step after an id
place_is : (a b : IntentId) (n m : ℕ) (s t : List ℕ) → bytes_cmp (id_bytes a (four n s)) (id_bytes b (four m t))
    ≡ ordering_then (nat_cmp a.ticket b.ticket) (ordering_then (bytes_cmp a.hops b.hops) (ordering_then (nat_cmp n m) (bytes_cmp s t)))
place_is a b n m s t =
    id_is a b (four n s) (four m t) ∙ ap (ordering_then (id_cmp a b)) (four_is n m s t)
    ∙ sym (assoc (nat_cmp a.ticket b.ticket) (bytes_cmp a.hops b.hops) (ordering_then (nat_cmp n m) (bytes_cmp s t)))

-- an item
item_is : (n m : ℕ) (k j : List ℕ) (s t : List ℕ) → bytes_cmp (two n (text_bytes k s)) (two m (text_bytes j t)) ≡ ordering_then (nat_cmp n m) (ordering_then (bytes_cmp k j) (bytes_cmp s t))
item_is n m k j s t = two_is n m (text_bytes k s) (text_bytes j t) ∙ ap (ordering_then (nat_cmp n m)) (text_is k j s t)

row_is : (n m : ℕ) (k j : List ℕ) (r q : ℕ) → bytes_cmp (two n (text_bytes k (four r []))) (two m (text_bytes j (four q []))) ≡ ordering_then (nat_cmp n m) (ordering_then (bytes_cmp k j) (nat_cmp r q))
row_is n m k j r q = item_is n m k j (four r []) (four q []) ∙ ap (λ o. ordering_then (nat_cmp n m) (ordering_then (bytes_cmp k j) o)) (four_is r q [] [] ∙ last (nat_cmp r q))

-- the number of a kind and its fields: where the numbers differ, they decide
kind_is : (a b : Kind) → bytes_cmp (kind_bytes a []) (kind_bytes b []) ≡ kind_cmp a b
kind_is (Intent a) (Intent b) = id_is a b [] [] ∙ sym (assoc (nat_cmp a.ticket b.ticket) (bytes_cmp a.hops b.hops) Equal)
kind_is (ReadLog p) (ReadLog q) = place_is p.intent q.intent p.step q.step [] []
kind_is (Invoke p) (Invoke q) = place_is p.intent q.intent p.step q.step [] []
kind_is (Data t k r) (Data u j q) = row_is t u k j r q
kind_is (Shadow x t k r) (Shadow y u j q) =
    let after = two_is x.func y.func (two t (text_bytes k (four r []))) (two u (text_bytes j (four q []))) ∙ ap (ordering_then (nat_cmp x.func y.func)) (row_is t u k j r q) in
    place_is x.intent y.intent x.begin y.begin (two x.func (two t (text_bytes k (four r [])))) (two y.func (two u (text_bytes j (four q []))))
    ∙ ap (λ o. ordering_then (nat_cmp x.intent.ticket y.intent.ticket) (ordering_then (bytes_cmp x.intent.hops y.intent.hops) (ordering_then (nat_cmp x.begin y.begin) o))) after
kind_is (Lockset a b t k) (Lockset c d u j) =
    place_is a c b d (two t (text_bytes k [])) (two u (text_bytes j []))
    ∙ ap (λ o. ordering_then (nat_cmp a.ticket c.ticket) (ordering_then (bytes_cmp a.hops c.hops) (ordering_then (nat_cmp b d) o))) (item_is t u k j [] [])
kind_is a b = refl

pub are_ordered : BytesAreOrderedAsKeys
are_ordered a b =
    two_is a.home b.home (kind_bytes a.kind []) (kind_bytes b.kind []) ∙ ap (ordering_then (nat_cmp a.home b.home)) (kind_is a.kind b.kind)

pub are_one : NoTwoKeysHaveOneBytes
are_one a b e = key_exact a b (sym (are_ordered a b) ∙ ap (λ x. bytes_cmp x (key_bytes b)) e ∙ tied_itself nat_list_cmp_total (key_bytes b))
