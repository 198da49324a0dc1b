use Rattle.beldi_bytes.specs.Coding.{IfThere, option_bytes}
use Rattle.beldi_bytes.specs.RowBytes.{eight, outcome_bytes, body_bytes, intent_bytes, IsOutcome, IsMoment}
use Rattle.beldi_bytes.specs.BytesReading.{IsIntentInTime}
use Rattle.beldi_bytes.proofs.Exact.{option_exact}
use Rattle.beldi_bytes.proofs.RowExact.{eight_exact, outcome_exact, body_exact}
use Rattle.beldi_bytes.proofs.Refused.{refused, behind}
use Rattle.beldi_bytes.proofs.row_in.read_intent.Goals as goal

pub returns-in-Err-read_outcome_if : goal.returns-in-Err-read_outcome_if
returns-in-Err-read_outcome_if c = refused (option_bytes outcome_bytes) (IfThere IsOutcome) intent_bytes IsIntentInTime _ _ c.in-Err-read_outcome_if.why c.in-Err-read_outcome_if.ensures (λ x s i e. (x.outcome, option_bytes eight x.finish s, i.0.1, behind (option_bytes body_bytes) (option_exact body_bytes body_exact) _ _ _ _ _ c.in-Ok-read_body_if.ensures.0 (behind eight eight_exact _ _ _ _ _ c.in-Ok.ensures.0 e)))

pub returns-in-Err-read_moment_if : goal.returns-in-Err-read_moment_if
returns-in-Err-read_moment_if c = refused (option_bytes eight) (IfThere IsMoment) intent_bytes IsIntentInTime _ _ c.in-Err-read_moment_if.why c.in-Err-read_moment_if.ensures (λ x s i e. (x.finish, s, i.1.1, behind (option_bytes outcome_bytes) (option_exact outcome_bytes outcome_exact) _ _ _ _ _ c.in-Ok-read_outcome_if.ensures.0 (behind (option_bytes body_bytes) (option_exact body_bytes body_exact) _ _ _ _ _ c.in-Ok-read_body_if.ensures.0 (behind eight eight_exact _ _ _ _ _ c.in-Ok.ensures.0 e))))
