use Rattle.beldi_check.proofs.{Names.ap, Names.leads, Names.list_any, Names.site_of, Names.sym, Names.◌∙◌, Firsts.any_of_map}
use Rattle.beldi_check.proofs.calls.has_lead.Goals as goal

pub returns : goal.returns
returns c = c.any_leads.ensures ∙ sym (any_of_map (λ s. leads c.args.link c.args.name.now s.1) site_of c.sites.result.now) ∙ ap (list_any (λ s. leads c.args.link c.args.name.now s.1)) c.sites.ensures
