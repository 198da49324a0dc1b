use Rattle.beldi_check.proofs.Names.{drop, first_site, map, site_of, ◌≡◌}
use Rattle.beldi_check.proofs.rules.kept_in.Given as goal

abbrev pub invariant-loop-site : goal.invariant-loop-site
invariant-loop-site l = first_site l.rule l.all l.one l.within (map site_of (drop l.site-index l.site-items)) ≡ first_site l.rule l.all l.one l.within (map site_of l.site-items)
