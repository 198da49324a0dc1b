-- Over no rows, and over rows that are all there; and what a look finds.
use borrow.Author.Tests.{le-leb}
use Rattle.std.specs.FinMap as map
use Rattle.std.specs.FinMap.{same_map}
use Rattle.std.specs.Prelude.{nat_le, nat_lt, ◌&&◌}
use Rattle.std.proofs.lemmas.Bool.{lt-ltb}
use Rattle.beldi_value.specs.declared.id.IntentId.{IntentId}
use Rattle.beldi_tree.specs.declared.deployment.Deployment.{Deployment}
use Rattle.beldi_row.specs.KeyOrder.{key_exact, key_total}
use Rattle.beldi_intent.specs.Intent.{root_key}
use Rattle.beldi_upkeep.specs.Upkeep.{Upkeep}
use Rattle.std.proofs.Common.{◌≡◌, ◌⊎◌, inl, inr, ℕ, zero, suc, Bool, true, false, Option, Some, None, is_some, refl, ap, sym, ◌∙◌, subst, arith}
use Rattle.beldi_upkeep.specs.{Callees.belongs_to, Callees.seat_of, WorksFor.finish_in}
use Rattle.beldi_upkeep.proofs.Together.{begins_upkept}
use Rattle.beldi_row.specs.Table.{Rows}
use Rattle.beldi_chain.specs.Chain.{chain}
use Rattle.beldi_splice.proofs.Alike.{linked_are_so, nobody_gone_none_less}
use Rattle.beldi_step.specs.HostStep.{Core, first_core}
use Rattle.beldi_histories.specs.Contents.{head_key}
use Rattle.beldi_wanted.proofs.WantedKept.{begins_wanted}
use Rattle.beldi_kept.proofs.{Gone.old_still, Less.by_kind, KeptWhole.whole_ahead}
use Rattle.beldi_kept.specs.{Less.IsGone, Less.Less, KeptRows.IsOld, KeptLaws.AllAreKept, KeptLaws.BeginsKept, KeptLaws.LooksFindOld, KeptLaws.NobodyGone, KeptLaws.OldStays}

-- rows that are all there
whole : (d : Deployment) (c : Core) (m : Rows) (gone : IntentId → Bool) → Upkeep d c m → Less gone m m
whole d c m gone u = record { rows = λ k other. inl refl; cells = λ x. (linked_are_so gone (chain m (head_key x)) (u.invariant.rows.chains x)).0; threads = λ x. (linked_are_so gone (chain m (head_key x)) (u.invariant.rows.chains x)).1 }

pub begins_kept : BeginsKept
begins_kept d now = record { kept = map.empty; upkeep = begins_upkept d now; wanted = begins_wanted d now; gone = λ i. false; latest = 0; less = whole d (first_core 0 now) map.empty (λ i. false) (begins_upkept d now); over = λ i off. cc; spared = λ n r i live in_time works. refl; ahead = λ n r live in_time. whole_ahead d (first_core 0 now) map.empty (begins_upkept d now) n r live; newest = inl refl }

-- nobody was old then
pub begins_early : (d : Deployment) (now : ℕ) → (begins_kept d now).latest ≡ 0
unfolding begins_kept
begins_early d now = refl

-- ---- all rows are there
issued_newest : (n : ℕ) (o : Bool) → o ≡ (nat_lt 0 n && nat_le n n) → (n ≡ 0) ⊎ (o ≡ true)
issued_newest zero o is = inl refl
issued_newest (suc n) o is = inr (is ∙ ap (λ b. b && nat_le (suc n) (suc n)) (lt-ltb 0 (suc n) (omega arith)) ∙ le-leb (suc n) (suc n) (omega arith))

pub all_are_kept : AllAreKept
all_are_kept d c m u w = (
  record { kept = m; upkeep = u; wanted = w; gone = λ i. false; latest = 0; less = whole d c m (λ i. false) u; over = λ i off. cc; spared = λ n r i live in_time works. refl; ahead = λ n r live in_time. whole_ahead d c m u n r live; newest = issued_newest c.newest (is_some (map.get m (root_key c.newest))) (u.invariant.tickets c.newest) },
  refl,
  λ i. refl,
)

nobody : (gone : IntentId → Bool) → ((i : IntentId) → gone i ≡ false) → (o : Option IntentId) → IsGone gone o → ⊥
nobody gone none None of = of
nobody gone none (Some i) of = let clash = sym of ∙ none i in cc

pub nobody_gone : NobodyGone
nobody_gone d c m h none = subst (Upkeep d c) (same_map key_total key_exact h.kept m (λ k. by_kind k
    (λ other. elim (h.less.rows k other) [
      | inl same ↦ sym same
      | inr off ↦ absurd (nobody h.gone none (belongs_to k.kind) off.1)
    ])
    (λ x n at. subst (λ z. map.get h.kept z ≡ map.get m z) at (sym (nobody_gone_none_less h.gone (chain m (head_key x)) (chain h.kept (head_key x)) (h.upkeep.invariant.rows.chains x) none (h.less.cells x) n))))) h.upkeep

pub looks_find_old : LooksFindOld
looks_find_old d c m h k i there of told = record { intent = i; belongs = of; old = by_less (h.less.rows (seat_of k i) refl) told }
  where
    by_told : map.get m (seat_of k i) ≡ map.get h.kept (seat_of k i) → (map.get m (seat_of k i) ≡ None) ⊎ IsOld d.life c.now (finish_in (map.get m (seat_of k i))) → (h.gone i ≡ true) ⊎ IsOld d.life c.now (finish_in (map.get h.kept (seat_of k i)))
    by_told same (inl none) = let clash = sym (h.upkeep.seats.has_seat k i of there) ∙ ap is_some (sym same ∙ none) in cc
    by_told same (inr old) = inr (subst (λ o. IsOld d.life c.now (finish_in o)) same old)

    by_less : (map.get m (seat_of k i) ≡ map.get h.kept (seat_of k i)) ⊎ ((map.get m (seat_of k i) ≡ None) × IsGone h.gone (belongs_to (seat_of k i).kind)) → (map.get m (seat_of k i) ≡ None) ⊎ IsOld d.life c.now (finish_in (map.get m (seat_of k i)))
        → (h.gone i ≡ true) ⊎ IsOld d.life c.now (finish_in (map.get h.kept (seat_of k i)))
    by_less (inl same) t = by_told same t
    by_less (inr off) t = inl off.1

pub old_stays : OldStays
old_stays d c b m n h g later k w = record { intent = w.intent; belongs = w.belongs; old = by_old w.old }
  where
    by_old : (h.gone w.intent ≡ true) ⊎ IsOld d.life c.now (finish_in (map.get h.kept (seat_of k w.intent))) → (g.gone w.intent ≡ true) ⊎ IsOld d.life b.now (finish_in (map.get g.kept (seat_of k w.intent)))
    by_old (inl off) = inl (later.gone w.intent off)
    by_old (inr old) = inr (old_still d.life c.now b.now (finish_in (map.get h.kept (seat_of k w.intent))) (finish_in (map.get g.kept (seat_of k w.intent))) later.moment (later.finishes (seat_of k w.intent)) old)
