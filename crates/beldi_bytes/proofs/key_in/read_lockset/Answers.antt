use Rattle.std.specs.Prelude.{IsUtf8}
use Rattle.beldi_bytes.specs.Coding.{Any}
use Rattle.beldi_bytes.specs.KeyBytes.{two, four, id_bytes, text_bytes, kind_bytes, IsKind}
use Rattle.beldi_bytes.proofs.Exact.{two_exact, four_exact, id_exact}
use Rattle.beldi_bytes.proofs.Tagged.{lockset_in}
use Rattle.beldi_bytes.proofs.Refused.{refused, behind}
use Rattle.beldi_bytes.proofs.key_in.read_lockset.Goals as goal

pub returns-in-Err-four : goal.returns-in-Err-four
returns-in-Err-four c = refused four Any kind_bytes IsKind _ _ c.in-Err-four.why c.in-Err-four.ensures (λ x s i e. let d = lockset_in _ x s i e in (d.1, two d.2 (text_bytes d.3 s), tt, behind id_bytes id_exact _ _ _ _ _ c.in-Ok.ensures.0 (d.6)))

pub returns-in-Err-two : goal.returns-in-Err-two
returns-in-Err-two c = refused two Any kind_bytes IsKind _ _ c.in-Err-two.why c.in-Err-two.ensures (λ x s i e. let d = lockset_in _ x s i e in (d.2, text_bytes d.3 s, tt, behind four four_exact _ _ _ _ _ c.in-Ok-four.ensures.0 (behind id_bytes id_exact _ _ _ _ _ c.in-Ok.ensures.0 (d.6))))

pub returns-in-Err-read_text : goal.returns-in-Err-read_text
returns-in-Err-read_text c = refused text_bytes IsUtf8 kind_bytes IsKind _ _ c.in-Err-read_text.why c.in-Err-read_text.ensures (λ x s i e. let d = lockset_in _ x s i e in (d.3, s, d.5, behind two two_exact _ _ _ _ _ c.in-Ok-two.ensures.0 (behind four four_exact _ _ _ _ _ c.in-Ok-four.ensures.0 (behind id_bytes id_exact _ _ _ _ _ c.in-Ok.ensures.0 (d.6)))))
