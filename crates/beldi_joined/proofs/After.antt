-- What an event leaves of the joined book, in terms of the session's own core and of the book before it.
use Rattle.std.specs.Prelude.{ℕ, ◌≡◌, ◌++◌, option_to_list, List, Some, Result, Ok, refl}
use Rattle.std.specs.declared.alloc.AllocError.{AllocError}
use Rattle.std.proofs.Common.{ap, ◌∙◌}
use Rattle.beldi_value.specs.declared.outcome.Outcome.{Outcome}
use Rattle.beldi_tree.specs.declared.deployment.Deployment.{Deployment}
use Rattle.beldi_book.specs.{declared.entry.Entry.Entry, LinearOrder.count_changes}
use Rattle.beldi_plain.specs.{Plain.PlainState, Legal.IsLegal, Legal.run_of, Listing.listing_of, Replies.HasReply, Replies.starts_of}
use Rattle.beldi_plain_laws.specs.Grown.{Grows}
use Rattle.beldi_row.specs.{Key.RowKey, Table.Rows}
use Rattle.beldi_step.specs.{declared.event.Event.Event, declared.event.EventReply.EventReply, HostStep.Core, HostStep.EventOn, Next.at_key, Tables.tables_text, EventContent.reply_outcome}
use Rattle.beldi_histories.specs.Stands.{Stands}
use Rattle.beldi_invariant.specs.{InvariantLaws.BookGrew, InvariantLaws.bound_by, OneAnswer.OneAnswerPerStep, Invariant.Invariant}
use Rattle.beldi_invariant.proofs.Moves.{with_runs}
use Rattle.beldi_invariant.proofs.{Events.keeps_invariant, Events.replies, Events.invariant_legal, Listing.listing_plain, OneAnswer.one_answer, Standing.invariant_stands, Starts.instances_go_on, Starts.outcomes_stay, Starts.starts_bound}
use Rattle.beldi_upkeep.specs.Upkeep.{Upkeep}
use Rattle.beldi_upkeep.proofs.Together.{keeps_upkeep}
use Rattle.beldi_host.specs.{ReplyStatus.IsStatusSo, Survey.reply_status}
use Rattle.beldi_host.proofs.HostInvariant.{status_so}
use Rattle.beldi_joined.specs.Joined.{behind, joined, raised, raised_reply}
use Rattle.beldi_joined.proofs.{Books.joined_more, Books.starts_joined, RaisedEvents.step_behind}

-- ---- what a host has that has the invariant behind the book of earlier sessions
module _ (d : Deployment) (base : List Entry) (c : Core) (m : Rows) (h : Invariant d (behind base c) m) where
  pub legal_behind : IsLegal d (joined base c.book)
  legal_behind = invariant_legal d (behind base c) m h

  pub stands_behind : (p : PlainState) → run_of d (joined base c.book) ≡ Some p → Stands d m p
  stands_behind p is = invariant_stands d (behind base c) m p h is

  pub listing_behind : (p : PlainState) → run_of d (joined base c.book) ≡ Some p → tables_text d m ≡ listing_of d p
  listing_behind p is = listing_plain d (behind base c) m p h is

  pub said_behind : (t : ℕ) → IsStatusSo d (joined base c.book) t (reply_status c.newest t m)
  said_behind t = status_so d (behind base c) m h t

  -- where the intent collector stands is nothing that the invariant speaks of
  pub cursor_invariant : (k : RowKey) → Invariant d (behind base (at_key k c)) m
  cursor_invariant k = with_runs h (behind base (at_key k c)) refl refl h.runs

  pub one_answer_behind : (p : PlainState) → run_of d (joined base c.book) ≡ Some p → OneAnswerPerStep d (behind base c) m p
  one_answer_behind p is = one_answer d (behind base c) m p h is

-- what an answer tells of a root is the same, whatever book it is behind
pub told_same : (n : ℕ) (x : EventReply) → reply_outcome (raised_reply n x) ≡ reply_outcome x
told_same n (EventReply.Acted entry started over reply) = refl
told_same n x = refl

-- ---- an event
module _ (d : Deployment) (base : List Entry) (room old new : ℕ) (e : Event) (c b : Core) (m n : Rows) where
  -- the book grows by the entry that its own book gets, behind the book of earlier sessions
  pub grew_behind : (r : Result EventReply AllocError) (g : BookGrew e c b r) → joined base b.book ≡ joined base c.book ++ raised (count_changes base) (option_to_list g.entry)
  grew_behind r g = ap (joined base) g.book ∙ joined_more base c.book (option_to_list g.entry)

  -- the joined book starts what was started before, and then what was bound
  pub starts_behind : (r : Result EventReply AllocError) → EventOn d room old new e c m b n r → starts_of (joined base b.book) ≡ starts_of base ++ (starts_of c.book ++ bound_by e r)
  starts_behind r s = starts_joined base b.book ∙ ap (λ z. starts_of base ++ z) (starts_bound d room old new e c b m n r s)

  module _ (h : Invariant d (behind base c) m) where
    pub invariant_behind : (r : Result EventReply AllocError) → EventOn d room old new e c m b n r → Invariant d (behind base b) n
    invariant_behind r s = keeps_invariant d room old new e (behind base c) (behind base b) m n _ h (step_behind base d room old new e c b m n r s)

    pub outcomes_behind : (r : Result EventReply AllocError) → EventOn d room old new e c m b n r → (t : ℕ) (o : Outcome) → HasReply d (joined base c.book) t o → HasReply d (joined base b.book) t o
    outcomes_behind r s t o was = outcomes_stay d room old new e (behind base c) (behind base b) m n _ t o h (step_behind base d room old new e c b m n r s) was

    pub replies_behind : (x : EventReply) → EventOn d room old new e c m b n (Ok x) → (t : ℕ) (o : Outcome) → reply_outcome x ≡ Some (t, o) → HasReply d (joined base b.book) t o
    replies_behind x s t o told = replies d room old new e (behind base c) (behind base b) m n (raised_reply (count_changes base) x) h (step_behind base d room old new e c b m n (Ok x) s) t o (told_same (count_changes base) x ∙ told)

    pub instances_behind : (r : Result EventReply AllocError) → EventOn d room old new e c m b n r → (p q : PlainState) → run_of d (joined base c.book) ≡ Some p → run_of d (joined base b.book) ≡ Some q → Grows p.made q.made
    instances_behind r s p q was is = instances_go_on d room old new e (behind base c) (behind base b) m n _ p q h (step_behind base d room old new e c b m n r s) was is

  -- .. and what it keeps beside
  pub upkept_behind : (r : Result EventReply AllocError) → Upkeep d (behind base c) m → EventOn d room old new e c m b n r → Upkeep d (behind base b) n
  upkept_behind r u s = keeps_upkeep d room old new e (behind base c) (behind base b) m n _ u (step_behind base d room old new e c b m n r s)
