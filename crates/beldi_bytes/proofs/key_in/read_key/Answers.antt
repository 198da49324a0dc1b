use Rattle.std.proofs.Common.{[], length, sym, ap, ◌∙◌}
use Rattle.beldi_bytes.specs.KeyBytes.{key_then}
use Rattle.beldi_bytes.proofs.Exact.{key_exact}
use Rattle.beldi_bytes.proofs.Refused.{behind}
use Rattle.beldi_bytes.proofs.key_in.read_key.Goals as goal

pub returns-in-Ok-2 : goal.returns-in-Ok-2
returns-in-Ok-2 c = λ k i e.
    let none = behind key_then key_exact _ k _ _ [] c.in-Ok.ensures.0 (c.new-from.ensures ∙ sym e) in
    c.if-len-eq0.false (c.len.ensures ∙ ap length none)
