use Rattle.std.proofs.Common.{sym, ap₂, ◌∙◌}
use Rattle.beldi_row.{specs.Key.key_cmp, proofs.Fronts.by_kinds, proofs.Fronts.immediately}
use Rattle.beldi_row.proofs.key.RowKeyOrd.cmp.Goals as goal

pub returns-in-Equal : goal.returns-in-Equal
returns-in-Equal c =
    c.cmp-in-Equal.ensures ∙ by_kinds (record { home = c.self.inside.home; kind = c.self.inside.kind }) (record { home = c.other.inside.home; kind = c.other.inside.kind }) c.self.inside.front c.other.inside.front
    c.self.invariant.0 c.other.invariant.0 c.self.invariant.1 c.other.invariant.1 (sym c.cmp.ensures ∙ c.in-Equal.is)
    ∙ ap₂ key_cmp c.self.view_is c.other.view_is

pub returns-in_default : goal.returns-in_default
returns-in_default c =
    c.cmp.ensures ∙ immediately (record { home = c.self.inside.home; kind = c.self.inside.kind }) (record { home = c.other.inside.home; kind = c.other.inside.kind }) c.self.inside.front c.other.inside.front
    c.self.invariant.0 c.other.invariant.0 c.self.invariant.1 c.other.invariant.1 (λ same. c.in_default.not-Equal (c.cmp.ensures ∙ same))
    ∙ ap₂ key_cmp c.self.view_is c.other.view_is
