-- The order of keys is total, and keys that compare alike are one.
use Rattle.std.specs.Prelude.{◌≡◌, ℕ, ◌==◌, List, refl, if◌then◌else◌}
use Rattle.std.specs.{Cmp.IsTotalOrder, Cmp.nat_cmp_total, Cmp.on_total, Cmp.then_total, Ordering.nat_cmp, Ordering.ordering_then, Cmp.Lexicographic.slice_cmp, Cmp.Lexicographic.nat_list_cmp_total, FinMap.IsAntisymmetric, FinMap.nat_cmp-IsAntisymmetric, FinMap.slice_cmp-IsAntisymmetric, declared.cmp.Ordering.Ordering, declared.cmp.Ordering.TheVariants.Less, declared.cmp.Ordering.TheVariants.Equal, declared.cmp.Ordering.TheVariants.Greater}
use Rattle.std.proofs.Common.{sym, ◌∙◌}
use Rattle.beldi_value.specs.declared.id.IntentId.{IntentId}
use Rattle.beldi_row.specs.Key.{key_cmp, kind_cmp, rank_of, ticket_of, hops_of, step_of, func_of, table_of, item_of, row_of}
use Rattle.beldi_row.specs.declared.key.Kind.{Kind, TheVariants.Intent, TheVariants.ReadLog, TheVariants.Invoke, TheVariants.Data, TheVariants.Shadow, TheVariants.Lockset}

pub kind_total : IsTotalOrder kind_cmp
kind_total = then_total (on_total rank_of nat_cmp_total) (then_total (on_total ticket_of nat_cmp_total) (then_total (on_total hops_of nat_list_cmp_total) (then_total (on_total step_of nat_cmp_total)
    (then_total (on_total func_of nat_cmp_total) (then_total (on_total table_of nat_cmp_total) (then_total (on_total item_of nat_list_cmp_total) (on_total row_of nat_cmp_total)))))))

pub key_total : IsTotalOrder key_cmp
key_total = then_total (on_total (λ k. k.home) nat_cmp_total) (on_total (λ k. k.kind) kind_total)

-- a kind, got back from its parts
back : ℕ → ℕ → List ℕ → ℕ → ℕ → ℕ → List ℕ → ℕ → Kind
back rank ticket hops step func table item row =
    let id : IntentId = record { ticket = ticket; hops = hops } in
    if rank == 0 then Intent id else
    if rank == 1 then ReadLog (record { intent = id; step = step }) else
    if rank == 2 then Invoke (record { intent = id; step = step }) else
    if rank == 3 then Data table item row else
    if rank == 4 then Shadow (record { intent = id; begin = step; func = func }) table item row else
    Lockset id step table item

back_is : (a : Kind) → back (rank_of a) (ticket_of a) (hops_of a) (step_of a) (func_of a) (table_of a) (item_of a) (row_of a) ≡ a
unfolding back
back_is (Intent a) = refl
back_is (ReadLog p) = refl
back_is (Invoke p) = refl
back_is (Data t k r) = refl
back_is (Shadow x t k r) = refl
back_is (Lockset a b t k) = refl

then_both : (o p : Ordering) → ordering_then o p ≡ Equal → (o ≡ Equal) × (p ≡ Equal)
then_both Less p h = cc
then_both Equal p h = (refl, h)
then_both Greater p h = cc

kind_exact : IsAntisymmetric kind_cmp
kind_exact a b h =
    let bytes : IsAntisymmetric (slice_cmp nat_cmp) = slice_cmp-IsAntisymmetric nat_cmp-IsAntisymmetric in
    let p1 = then_both _ _ h in
    let p2 = then_both _ _ p1.1 in
    let p3 = then_both _ _ p2.1 in
    let p4 = then_both _ _ p3.1 in
    let p5 = then_both _ _ p4.1 in
    let p6 = then_both _ _ p5.1 in
    let p7 = then_both _ _ p6.1 in
    let rank = nat_cmp-IsAntisymmetric (rank_of a) (rank_of b) p1.0 in
    let ticket = nat_cmp-IsAntisymmetric (ticket_of a) (ticket_of b) p2.0 in
    let hops = bytes (hops_of a) (hops_of b) p3.0 in
    let step = nat_cmp-IsAntisymmetric (step_of a) (step_of b) p4.0 in
    let func = nat_cmp-IsAntisymmetric (func_of a) (func_of b) p5.0 in
    let table = nat_cmp-IsAntisymmetric (table_of a) (table_of b) p6.0 in
    let item = bytes (item_of a) (item_of b) p7.0 in
    let row = nat_cmp-IsAntisymmetric (row_of a) (row_of b) p7.1 in
    sym (back_is a) ∙ (λ i. back (rank i) (ticket i) (hops i) (step i) (func i) (table i) (item i) (row i)) ∙ back_is b

pub key_exact : IsAntisymmetric key_cmp
key_exact a b h =
    let e = then_both (nat_cmp a.home b.home) (kind_cmp a.kind b.kind) h in
    λ i. record { home = nat_cmp-IsAntisymmetric a.home b.home e.0 i; kind = kind_exact a.kind b.kind e.1 i }
