use Rattle.beldi_host.proofs.Names.{Past, RowKey, ap, is_lt, key_cmp, last_rank, rank_of, subst, sym, ℕ, ◌∙◌, ◌≡◌}
use Rattle.beldi_host.proofs.Skips.{past_itself, past_last}
use Rattle.beldi_host.proofs.survey.past_others.Goals as goal

pub returns-in-Data : goal.returns-in-Data
returns-in-Data c = past_itself c.args.key

pub returns-then-lt : goal.returns-then-lt
returns-then-lt c = past_itself c.args.key

pub returns-else-lt : goal.returns-else-lt
returns-else-lt c =
    let kind = c.in-Ok-or_drop.field-0 in
    let rank : rank_of kind ≡ last_rank c.args.key.kind = c.in-Ok-or_drop.ensures ∙ ap last_rank c.kind-2.ensures in
    let is : c.new-last.result ≡ record { home = c.args.key.home; kind = kind } = c.new-last.ensures ∙ ap (λ (n : ℕ). record { home = n; kind = kind }) c.home.ensures in
    subst (λ (q : RowKey). Past c.args.key q) (sym is) (past_last c.args.key kind rank (ap (λ (q : RowKey). is_lt (key_cmp q c.args.key)) (sym is) ∙ sym c.lt.ensures ∙ c.if-lt.false))
