use Rattle.beldi_value.proofs.Names.{List, ap, arith, get_or, get_or_default, length, rules, same_fields, same_items, sym, ℕ, ◌<◌, ◌∙◌, ◌≡◌}
use Rattle.beldi_value.proofs.value.+same.Goals as goal

-- two elements at one place of equal lists
one_place : {X : Type 0} (xs ys : List X) (i : ℕ) (x y : X) → xs ≡ ys → i < length ys → x ≡ get_or xs i x → y ≡ get_or ys i y → x ≡ y
one_place xs ys i x y e h p q = p ∙ ap (λ zs. get_or zs i x) e ∙ get_or_default ys i x y h ∙ sym q

pub Values::is_same-returns-then-not-is_same : goal.Values::is_same-returns-then-not-is_same
Values::is_same-returns-then-not-is_same t c = (
  λ w. cc,
  λ e.
      let xs = c.as_ref-own.result.now.items in
      let ys = c.as_ref-items.result.now.items in
      let same : xs ≡ ys = ap (λ v. v.items) c.as_ref-own.ensures ∙ same_items c.self.inside.items.value.items c.other.inside.items.value.items (c.self.view_is ∙ e ∙ sym c.other.view_is) ∙ ap (λ v. v.items) (sym c.as_ref-items.ensures) in
      let one = one_place xs ys c.loop-i.i c.v-item.result c.index.result.now same (omega arith) (search rules) c.index.ensures in
      cc (c.is_same.ensures.1 one),
)

pub Rec::is_same-returns-then-not-is_same_field : goal.Rec::is_same-returns-then-not-is_same_field
Rec::is_same-returns-then-not-is_same_field t c = (
  λ w. cc,
  λ e.
      let xs = c.as_ref-own.result.now.items in
      let ys = c.as_ref-fields.result.now.items in
      let same : xs ≡ ys = ap (λ v. v.items) c.as_ref-own.ensures ∙ same_fields c.self.inside.fields.value.items c.other.inside.fields.value.items (c.self.view_is ∙ e ∙ sym c.other.view_is) ∙ ap (λ v. v.items) (sym c.as_ref-fields.ensures) in
      let one = one_place xs ys c.loop-i.i c.field-item.result c.index.result.now same (omega arith) (search rules) c.index.ensures in
      cc (c.is_same_field.ensures.1 one),
)
