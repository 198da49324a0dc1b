-- What is told over the table's rows.
use Rattle.std.specs.Prelude.{Ok}
use Rattle.std.proofs.Common.{inl, inr, ap, sym, ◌∙◌, subst}
use Rattle.beldi_plain.specs.{Legal.run_of, Plain.PlainState, Replies.HasReply}
use Rattle.beldi_plain_laws.specs.Grown.{Grows}
use Rattle.beldi_invariant.proofs.{Events.replies, Events.invariant_legal, FirstOutcomes.first_outcomes_are_told, Names.grows_self, Starts.instances_go_on, Starts.outcomes_stay}
use Rattle.beldi_step.proofs.StepRuns.{same_some}
use Rattle.beldi_kept.specs.KeptLaws.{AnswersAreOfKept}
use Rattle.beldi_kept.specs.KeptReplies.{KeptAreLegal, KeptFirstOutcomes, KeptInstances, KeptOutcomes, KeptReplies}

pub kept_are_legal : KeptAreLegal
kept_are_legal d c m h = invariant_legal d c h.kept h.upkeep.invariant

pub kept_replies : AnswersAreOfKept → KeptReplies
kept_replies of_kept d room old new e c b m n x h s t o told = elim (of_kept d room old new e c b m n (Ok x) h s) [
  | inl k ↦ replies d k.room k.old k.new e c b h.kept k.after x h.upkeep.invariant k.on t o told
  | inr q ↦ let clash = sym q.tells.0 ∙ told in cc
]

pub kept_first_outcomes : AnswersAreOfKept → KeptFirstOutcomes
kept_first_outcomes of_kept d room old new e c b m n x h s unlost t o none has = elim (of_kept d room old new e c b m n (Ok x) h s) [
  | inl k ↦ first_outcomes_are_told d k.room k.old k.new e c b h.kept k.after x h.upkeep.invariant k.on unlost t o none has
  | inr q ↦ let clash = sym (none has.run (ap (run_of d) (sym q.book) ∙ has.legal)) ∙ has.reply in cc
]

pub kept_instances : AnswersAreOfKept → KeptInstances
kept_instances of_kept d room old new e c b m n r p q h s was is = elim (of_kept d room old new e c b m n r h s) [
  | inl k ↦ instances_go_on d k.room k.old k.new e c b h.kept k.after r p q h.upkeep.invariant k.on was is
  | inr still ↦ subst (λ (z : PlainState). Grows p.made z.made) (same_some (sym was ∙ ap (run_of d) (sym still.book) ∙ is)) (grows_self p.made)
]

pub kept_outcomes : AnswersAreOfKept → KeptOutcomes
kept_outcomes of_kept d room old new e c b m n r t o h s has = elim (of_kept d room old new e c b m n r h s) [
  | inl k ↦ outcomes_stay d k.room k.old k.new e c b h.kept k.after r t o h.upkeep.invariant k.on has
  | inr still ↦ subst (λ z. HasReply d z t o) (sym still.book) has
]
