-- Parts with the same bytes, and what follows them, are one.
use Rattle.std.proofs.Common.{◌≡◌, ℕ, zero, suc, false, true, Some, None, List, refl, sym, ap, ◌∙◌}
use Rattle.std.proofs.lemmas.Cmp.{nat_list_cmp_total, tied_itself}
use Rattle.std.specs.Ordering.{nat_cmp, ordering_then}
use Rattle.std.specs.declared.cmp.Ordering.{Ordering}
use Rattle.std.specs.declared.cmp.Ordering.TheVariants.{Less, Equal, Greater}
use Rattle.std.specs.FinMap.{IsAntisymmetric, nat_cmp-IsAntisymmetric, slice_cmp-IsAntisymmetric}
use Rattle.beldi_bytes.specs.KeyBytes.{two, char_bytes, four, hops_bytes, id_bytes, place_bytes, tx_bytes, text_bytes, kind_bytes, key_then, bytes_cmp}
use Rattle.beldi_row.specs.declared.key.Kind.TheVariants.{Intent, ReadLog, Invoke, Data, Shadow, Lockset}
use Rattle.beldi_bytes.specs.Coding.{one, truth_bytes, option_bytes}
use Rattle.beldi_bytes.proofs.Ordered.{two_is, four_is, hops_is, text_is}

abbrev pub Exact : {A : Type 0} → (A → List ℕ → List ℕ) → Type 0
Exact {A = A} put = (a b : A) (s t : List ℕ) → put a s ≡ put b t → (a ≡ b) × (s ≡ t)

then_both : (o p : Ordering) → ordering_then o p ≡ Equal → (o ≡ Equal) × (p ≡ Equal)
then_both Less p h = cc
then_both Equal p h = (refl, h)
then_both Greater p h = cc

bytes_exact : IsAntisymmetric bytes_cmp
bytes_exact = slice_cmp-IsAntisymmetric nat_cmp-IsAntisymmetric

-- a part that is ordered as what it stands for
by_order : {A : Type 0} (put : A → List ℕ → List ℕ) (cmp : A → A → Ordering) → IsAntisymmetric cmp
    → ((a b : A) (s t : List ℕ) → bytes_cmp (put a s) (put b t) ≡ ordering_then (cmp a b) (bytes_cmp s t)) → Exact put
by_order put cmp exact order a b s t e =
    let tied : bytes_cmp (put a s) (put b t) ≡ Equal = ap (λ x. bytes_cmp x (put b t)) e ∙ tied_itself nat_list_cmp_total (put b t) in
    let both = then_both (cmp a b) (bytes_cmp s t) (sym (order a b s t) ∙ tied) in
    (exact a b both.0, bytes_exact s t both.1)

pub one_exact : Exact one
one_exact a b s t e = (cc, cc)

pub truth_exact : Exact truth_bytes
truth_exact false false s t e = (refl, cc)
truth_exact true true s t e = (refl, cc)
truth_exact false true s t e = cc
truth_exact true false s t e = cc

pub option_exact : {A : Type 0} (put : A → List ℕ → List ℕ) → Exact put → Exact (option_bytes put)
option_exact put exact None None s t e = (refl, cc)
option_exact put exact None (Some b) s t e = cc
option_exact put exact (Some a) None s t e = cc
option_exact put exact (Some a) (Some b) s t e =
    let f : put a s ≡ put b t = cc in
    let p = exact a b s t f in
    (ap Some p.0, p.1)

pub char_exact : Exact char_bytes
char_exact None None s t e = (refl, cc)
char_exact None (Some zero) s t e = cc
char_exact None (Some (suc b)) s t e = cc
char_exact (Some zero) None s t e = cc
char_exact (Some zero) (Some zero) s t e = (refl, cc)
char_exact (Some zero) (Some (suc b)) s t e = cc
char_exact (Some (suc a)) None s t e = cc
char_exact (Some (suc a)) (Some zero) s t e = cc
char_exact (Some (suc a)) (Some (suc b)) s t e = (cc, cc)

pub two_exact : Exact two
two_exact = by_order two nat_cmp nat_cmp-IsAntisymmetric two_is

pub four_exact : Exact four
four_exact = by_order four nat_cmp nat_cmp-IsAntisymmetric four_is

pub hops_exact : Exact hops_bytes
hops_exact = by_order hops_bytes bytes_cmp bytes_exact hops_is

pub text_exact : Exact text_bytes
text_exact = by_order text_bytes bytes_cmp bytes_exact text_is

pub id_exact : Exact id_bytes
id_exact a b s t e =
    let p = four_exact a.ticket b.ticket (hops_bytes a.hops s) (hops_bytes b.hops t) e in
    let q = hops_exact a.hops b.hops s t p.1 in
    let same : a ≡ b = λ i. record { ticket = p.0 i; hops = q.0 i } in
    (same, q.1)

pub place_exact : Exact place_bytes
place_exact a b s t e =
    let p = id_exact a.intent b.intent (four a.step s) (four b.step t) e in
    let q = four_exact a.step b.step s t p.1 in
    let same : a ≡ b = λ i. record { intent = p.0 i; step = q.0 i } in
    (same, q.1)

pub tx_exact : Exact tx_bytes
tx_exact a b s t e =
    let p = id_exact a.intent b.intent (four a.begin (two a.func s)) (four b.begin (two b.func t)) e in
    let q = four_exact a.begin b.begin (two a.func s) (two b.func t) p.1 in
    let r = two_exact a.func b.func s t q.1 in
    let same : a ≡ b = λ i. record { intent = p.0 i; begin = q.0 i; func = r.0 i } in
    (same, r.1)

pub kind_exact : Exact kind_bytes
kind_exact (Intent a) (Intent b) s t e =
    let f : id_bytes a s ≡ id_bytes b t = cc in
    let p = id_exact a b s t f in
    (ap Intent p.0, p.1)
kind_exact (ReadLog a) (ReadLog b) s t e =
    let f : place_bytes a s ≡ place_bytes b t = cc in
    let p = place_exact a b s t f in
    (ap ReadLog p.0, p.1)
kind_exact (Invoke a) (Invoke b) s t e =
    let f : place_bytes a s ≡ place_bytes b t = cc in
    let p = place_exact a b s t f in
    (ap Invoke p.0, p.1)
kind_exact (Data x k r) (Data y j q) s t e =
    let f : two x (text_bytes k (four r s)) ≡ two y (text_bytes j (four q t)) = cc in
    let p = two_exact x y (text_bytes k (four r s)) (text_bytes j (four q t)) f in
    let o = text_exact k j (four r s) (four q t) p.1 in
    let n = four_exact r q s t o.1 in
    (λ i. Data (p.0 i) (o.0 i) (n.0 i), n.1)
kind_exact (Shadow a x k r) (Shadow b y j q) s t e =
    let f : tx_bytes a (two x (text_bytes k (four r s))) ≡ tx_bytes b (two y (text_bytes j (four q t))) = cc in
    let m = tx_exact a b (two x (text_bytes k (four r s))) (two y (text_bytes j (four q t))) f in
    let p = two_exact x y (text_bytes k (four r s)) (text_bytes j (four q t)) m.1 in
    let o = text_exact k j (four r s) (four q t) p.1 in
    let n = four_exact r q s t o.1 in
    (λ i. Shadow (m.0 i) (p.0 i) (o.0 i) (n.0 i), n.1)
kind_exact (Lockset a b x k) (Lockset c d y j) s t e =
    let f : id_bytes a (four b (two x (text_bytes k s))) ≡ id_bytes c (four d (two y (text_bytes j t))) = cc in
    let m = id_exact a c (four b (two x (text_bytes k s))) (four d (two y (text_bytes j t))) f in
    let n = four_exact b d (two x (text_bytes k s)) (two y (text_bytes j t)) m.1 in
    let p = two_exact x y (text_bytes k s) (text_bytes j t) n.1 in
    let o = text_exact k j s t p.1 in
    (λ i. Lockset (m.0 i) (n.0 i) (p.0 i) (o.0 i), o.1)
kind_exact a b s t e = cc

pub key_exact : Exact key_then
key_exact a b s t e =
    let p = two_exact a.home b.home (kind_bytes a.kind s) (kind_bytes b.kind t) e in
    let q = kind_exact a.kind b.kind s t p.1 in
    let same : a ≡ b = λ i. record { home = p.0 i; kind = q.0 i } in
    (same, q.1)
