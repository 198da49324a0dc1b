use Rattle.beldi_value.proofs.Names.{HaveForm, IsRecord, List, Value, [], ap, arith, drop, fields_of, fields_view, length, length-drop, nil_from_length, pairs_back, subst, sym, ℕ, ◌∙◌, ◌≡◌, ◌≤◌}
use Rattle.beldi_value.proofs.Results.{always}
use Rattle.beldi_value.proofs.value.+put.Goals as goal

all_formed : (fs : List (List ℕ × Value)) (i : ℕ) → length fs ≤ i → (HaveForm (fields_of (fields_view (drop i fs))) → HaveForm (fields_of (fields_view fs))) → HaveForm (fields_of (fields_view fs))
all_formed fs i h f =
    let none : drop i fs ≡ [] = nil_from_length (drop i fs) (omega (arith, length-drop i fs)) in
    f (subst (λ gs. HaveForm (fields_of (fields_view gs))) (sym none) tt)

pub Rec::put-returns-clause-formed : goal.Rec::put-returns-clause-formed
Rec::put-returns-clause-formed t c =
    let fs = c.deref-field-items.result.now in
    let form = all_formed fs c.loop-field.field-index (omega arith) c.loop-field.invariant.formed in
    let view = ap fields_view c.deref-field-items.ensures.value ∙ ap (λ v. fields_view v.items) c.as_ref.ensures ∙ c.self.view_is in
    always c.push_text-2.result _ (subst IsRecord (sym (pairs_back c.args.self.now)) (subst IsRecord c.self.view_is c.self.invariant), subst (λ gs. HaveForm (fields_of gs)) view form)
