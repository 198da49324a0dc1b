-- The text of how a settling or a sweep ended.
use Rattle.std.specs.Prelude.{ℕ, List, ◌++◌, flat_map, codes}
use Rattle.std.specs.Fmt.{decimal}
use Rattle.beldi_tree.specs.declared.deployment.Deployment.{Deployment}
use Rattle.beldi_step.specs.declared.event.EventReply.{EventReply}
use Rattle.beldi_schedule.specs.declared.machine.{Settled.Settled, Settled.TheVariants.All, Settled.TheVariants.Unsettled, Settled.TheVariants.Spent, Settled.TheVariants.Shut, Settled.TheVariants.Stuck}
use Rattle.beldi_session.specs.{declared.sweeping.Swept.Swept, Answer.answer_text, Answer.numbered}

-- a run that waits, and for what
abbrev pub wait_text : Deployment → ℕ × EventReply → List ℕ
wait_text d w = codes "run " ++ (decimal w.0 ++ (codes " " ++ answer_text d w.1))

abbrev pub settled_text : Deployment → Settled → List ℕ
settled_text d (All n) = numbered (codes "settled ") n
settled_text d (Unsettled n) = numbered (codes "unsettled ") n
settled_text d (Spent n) = numbered (codes "spent ") n
settled_text d (Shut n) = numbered (codes "shut ") n
settled_text d (Stuck n ws) = numbered (codes "stuck ") n ++ flat_map (wait_text d) ws

abbrev pub swept_text : Swept → List ℕ
swept_text (Swept.All n) = numbered (codes "swept ") n
swept_text (Swept.Unswept n) = numbered (codes "unswept ") n
