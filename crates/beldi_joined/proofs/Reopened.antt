-- A host that was opened again, over the rows that an earlier one left.
use Rattle.std.specs.Prelude.{ℕ, ◌≡◌, List, [], max, Some, refl}
use Rattle.std.specs.{FinMap.get-empty, Ordering.nat_cmp}
use Rattle.std.specs.FinMap as map
use Rattle.std.proofs.Common.{ap, subst, sym, ◌∙◌}
use Rattle.beldi_tree.specs.declared.deployment.Deployment.{Deployment}
use Rattle.beldi_book.specs.{declared.entry.Entry.Entry, LinearOrder.count_changes}
use Rattle.beldi_row.specs.{Key.RowKey, Table.Rows}
use Rattle.beldi_step.specs.{HostStep.Core, HostStep.first_core, HostStep.newest_of, Next.at_key, declared.run.Run.Run}
use Rattle.beldi_invariant.specs.Invariant.{Invariant}
use Rattle.beldi_invariant.proofs.{Lives.runs_none, Moves.with_runs, NewestTicket.newest_named}
use Rattle.beldi_upkeep.specs.Upkeep.{Upkeep}
use Rattle.beldi_kept.{proofs.Collecting.safe_at_first, proofs.KeptNewest.newest_is, specs.KeptRows.HasKept, specs.Safe.IsSafe}
use Rattle.beldi_host.specs.Survey.{latest_of, opened_core}
use Rattle.beldi_joined.specs.Joined.{behind, joined, reopened}
use Rattle.beldi_joined.proofs.{Books.joined_nothing, Books.nothing_joined, RaisedRuns.empty_raised, RaisedRuns.none_raised}

no_run : (n : ℕ) (r : Run) → map.get (map.empty {X = Run} {R = nat_cmp}) n ≡ Some r → ⊥
no_run n r is = let clash = sym (get-empty nat_cmp n) ∙ is in cc

-- no run is live, and nothing else is other than before
pub reopened_invariant : (d : Deployment) (c : Core) (m : Rows) (now : ℕ) → Invariant d c m → Invariant d (reopened c.newest c.book now) m
reopened_invariant d c m now h = with_runs h (reopened c.newest c.book now) refl refl (runs_none d m h.plain c.book h.histories 0)

-- .. nor of what every event keeps beside it
pub reopened_upkept : (d : Deployment) (c : Core) (m : Rows) (now : ℕ) → Upkeep d c m → Upkeep d (reopened c.newest c.book now) m
reopened_upkept d c m now u = record {
  invariant = reopened_invariant d c m now u.invariant;
  seats = u.seats;
  owe = record { each = λ n r g is. absurd (no_run n r is) };
  past = u.past;
  passes = record { each = λ n r g is. absurd (no_run n r is) };
  near = record { soon = λ n r is. absurd (no_run n r is); near = λ n r i home is. absurd (no_run n r is) };
  started = u.started;
}

-- a host that nothing has happened to, behind the book of the sessions before it
pub opened_behind : (base : List Entry) (newest now : ℕ) → behind base (first_core newest now) ≡ reopened newest base now
opened_behind base newest now = λ i. record (first_core newest now) { book = joined_nothing base i; runs = empty_raised (count_changes base) i }

-- so it has the invariant over the rows that an earlier one left: its newest ticket is the one that they name
pub opens_invariant : (d : Deployment) (c : Core) (m : Rows) (now : ℕ) → Invariant d c m → Invariant d (behind c.book (first_core (newest_of m) now)) m
opens_invariant d c m now h = subst (λ z. Invariant d z m) (sym (opened_behind c.book (newest_of m) now)) (subst (λ n. Invariant d (reopened n c.book now) m) (sym (newest_named d c m h)) (reopened_invariant d c m now h))

pub opens_upkept : (d : Deployment) (c : Core) (m : Rows) (now : ℕ) → Upkeep d c m → Upkeep d (behind c.book (first_core (newest_of m) now)) m
opens_upkept d c m now u = subst (λ z. Upkeep d z m) (sym (opened_behind c.book (newest_of m) now)) (subst (λ n. Upkeep d (reopened n c.book now) m) (sym (newest_named d c m u.invariant)) (reopened_upkept d c m now u))

pub opened_upkept : (d : Deployment) (c : Core) (m : Rows) (now : ℕ) → Upkeep d c m → Upkeep d (behind c.book (opened_core m now)) m
opened_upkept d c m now u = opens_upkept d c m (max now (latest_of m)) u

-- .. also over rows of which some are gone
module _ (d : Deployment) (c : Core) (m : Rows) (h : HasKept d c m) where
  abbrev reopened_kept : (now : ℕ) → HasKept d (reopened c.newest c.book now) m
  reopened_kept now = record {
    kept = h.kept;
    upkeep = reopened_upkept d c h.kept now h.upkeep;
    wanted = record { spares = h.wanted.spares; frees = λ n r is. absurd (no_run n r is) };
    gone = h.gone;
    less = h.less;
    latest = h.latest;
    over = h.over;
    spared = λ n r i is. absurd (no_run n r is);
    ahead = λ n r is. absurd (no_run n r is);
    newest = h.newest;
  }

  abbrev Safe : Core → Type 0
  Safe z = (g : IsSafe d z m) × (g.has.latest ≡ h.latest)

  reopened_safe : (now : ℕ) → Safe (reopened c.newest c.book now)
  reopened_safe now = let g = safe_at_first d (reopened c.newest c.book now) m (reopened_kept now) refl in (g.0, ap (λ z. z.latest) g.1)

  pub opened_safe : (now : ℕ) → Safe (behind c.book (opened_core m now))
  opened_safe now = let t = max now (latest_of m) in
      subst Safe (sym (opened_behind c.book (newest_of m) t)) (subst (λ n. Safe (reopened n c.book t)) (sym (newest_is d c m h)) (reopened_safe t))

-- .. and over those that a session left which was itself behind others
pub opens_again : (d : Deployment) (base : List Entry) (c : Core) (m : Rows) (now : ℕ) → Invariant d (behind base c) m → Invariant d (behind (joined base c.book) (first_core (newest_of m) now)) m
opens_again d base c m now h = opens_invariant d (behind base c) m now h

-- behind no session a core is as it was: so it is with the first session
pub behind_nothing : (c : Core) → behind [] c ≡ c
behind_nothing c = λ i. record c { book = nothing_joined c.book i; runs = none_raised c.runs i }

pub first_upkept : (d : Deployment) (c : Core) (m : Rows) → Upkeep d c m → Upkeep d (behind [] c) m
first_upkept d c m u = subst (λ z. Upkeep d z m) (sym (behind_nothing c)) u

pub first_invariant : (d : Deployment) (c : Core) (m : Rows) → Invariant d c m → Invariant d (behind [] c) m
first_invariant d c m h = subst (λ z. Invariant d z m) (sym (behind_nothing c)) h

-- where the intent collector stands is nothing that a longer book changes
pub cursor_behind : (base : List Entry) (k : RowKey) (c : Core) → behind base (at_key k c) ≡ at_key k (behind base c)
cursor_behind base k c = refl
