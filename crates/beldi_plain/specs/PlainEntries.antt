-- The state after an entry.
use Rattle.std.specs.Prelude.{Option}
use Rattle.std.specs.FinMap as map
use Rattle.beldi_value.specs.Id.{root_of}
use Rattle.beldi_tree.specs.declared.deployment.Deployment.{Deployment}
use Rattle.beldi_book.specs.declared.entry.Entry.{Entry, TheVariants.Start, TheVariants.Read, TheVariants.Step, TheVariants.CommittedTx, TheVariants.AbortedTx}
use Rattle.beldi_plain.specs.Plain.{PlainState, start, can_step, is_waiting, if_read, if_change, kind_of, effect_of, step_by}
use Rattle.beldi_plain.specs.Transaction.{commit_from, abort_from}

-- None where it is not enabled. An entry is enabled only as the next step of its instance, so a run has each step once; and a
-- transaction only as one piece.
abbrev pub after : Deployment → PlainState → Entry → Option PlainState
after d p (Start t f a) = start p t f a (map.get p.made (root_of t))
after d p (Read id version) = can_step (map.get p.made id) (is_waiting d p id) (λ q. if_read (kind_of id (effect_of d q)) (step_by p id q (effect_of d q)))
after d p (Step id) = can_step (map.get p.made id) (is_waiting d p id) (λ q. if_change (kind_of id (effect_of d q)) (step_by p id q (effect_of d q)))
after d p (CommittedTx id) = can_step (map.get p.made id) (is_waiting d p id) (λ q. commit_from d p id q (effect_of d q))
after d p (AbortedTx id place holder) = can_step (map.get p.made id) (is_waiting d p id) (λ q. abort_from d p id place holder q (effect_of d q))
