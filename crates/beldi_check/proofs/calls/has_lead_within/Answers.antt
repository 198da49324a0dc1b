use Rattle.beldi_check.proofs.Names.{ap, leads, list_any, site_of, sym, ◌&&◌, ◌∙◌}
use Rattle.beldi_check.proofs.Firsts.{any_of_map}
use Rattle.beldi_check.proofs.calls.has_lead_within.Goals as goal

pub returns : goal.returns
returns c = c.any_leads_within.ensures ∙ sym (any_of_map (λ s. s.0.in_transaction && leads c.args.link c.args.name.now s.1) site_of c.sites.result.now) ∙ ap (list_any (λ s. s.0.in_transaction && leads c.args.link c.args.name.now s.1)) c.sites.ensures
