-- The roots that a book starts are the requests that were bound; and the outcomes that were told stay.
use Rattle.beldi_book.specs.declared.entry.Entry.TheVariants.{Read, CommittedTx}
use Rattle.beldi_invariant.proofs.Names.{Core, Deployment, Entry, GrownAt, Grows, HasReply, Instance, InstancesGoOn, List, Option, Outcome, OutcomesStay, Invariant, Rows, EventReply, Some, Start, StartsAreBound, Step, AbortedTx, [], ap, arith, option_to_list, outcome_of, refl, reply_of, root_of, same_some, starts_of, subst, sym, ℕ, ◌++◌, ◌∙◌, ◌∷◌, ◌≡◌}
use Rattle.beldi_invariant.proofs.{Events.after_event, Moves.seen_by, Moves.After, OneEvent.book_grew, Standing.same_run}
use Rattle.beldi_invariant.proofs.Names.map

starts_push : (es fs : List Entry) → starts_of (es ++ fs) ≡ starts_of es ++ starts_of fs
starts_push [] fs = refl
starts_push (Start t f a ∷ es) fs = ap (λ r. (t, (f, a)) ∷ r) (starts_push es fs)
starts_push (Read id version ∷ es) fs = starts_push es fs
starts_push (Step id ∷ es) fs = starts_push es fs
starts_push (CommittedTx id ∷ es) fs = starts_push es fs
starts_push (AbortedTx id p h ∷ es) fs = starts_push es fs

pub starts_bound : StartsAreBound
starts_bound d room old new e c b m n r s =
    let g = book_grew d room old new e c b m n r s in
    ap starts_of g.book ∙ starts_push c.book (option_to_list g.entry) ∙ ap (λ z. starts_of c.book ++ z) g.starts

-- ---- what was made goes on, and outcomes stay
pub instances_go_on : InstancesGoOn
instances_go_on d room old new e c b m n r p q h s was is =
    let a = after_event d room old new e c b m n r h s in
    subst (λ z. Grows z.made q.made) (same_run d c m p h was) (subst (λ z. Grows h.plain.made z.made) (same_run d b n q a.invariant is) a.goes_on)

outcome_stays : (x y : Option Instance) (o : Outcome) → GrownAt x y → outcome_of x ≡ Some o → outcome_of y ≡ Some o
outcome_stays x y o g is = grind arith

reply_stays : (d : Deployment) (c b : Core) (m n : Rows) (t : ℕ) (o : Outcome) (h : Invariant d c m) (g : Invariant d b n) → Grows h.plain.made g.plain.made → HasReply d c.book t o → HasReply d b.book t o
reply_stays d c b m n t o h g grows r = record {
  run = g.plain;
  legal = g.legal;
  reply = outcome_stays (map.get h.plain.made (root_of t)) (map.get g.plain.made (root_of t)) o (grows (root_of t)) (ap (λ p. reply_of p t) (same_some (sym h.legal ∙ r.legal)) ∙ r.reply);
}

pub outcome_kept : (d : Deployment) (c b : Core) (m n : Rows) (x : EventReply) (t : ℕ) (o : Outcome) (h : Invariant d c m) → After d h.plain b n x → HasReply d c.book t o → HasReply d b.book t o
outcome_kept d c b m n x t o h a r = reply_stays d c b m n t o h a.invariant a.goes_on r

pub outcomes_stay : OutcomesStay
outcomes_stay d room old new e c b m n r t o h s g = outcome_kept d c b m n (seen_by r) t o h (after_event d room old new e c b m n r h s) g
