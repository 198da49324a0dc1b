use Rattle.beldi_tree.proofs.Names.{Bindings, IsStrictlySortedBy, List, None, Option, Some, Value, ap, ap₂, get_made, is_at, keys_of, lookup, nat_cmp, nat_cmp-IsAntisymmetric, nat_list_cmp_total, option_or, refl, rules, slice_cmp, slice_cmp-IsAntisymmetric, subst, sym, ℕ, ◌∙◌, ◌∷◌, ◌≡◌}
use Rattle.beldi_tree.proofs.Copies.{IsCopied, all_copied, one_copied}
use Rattle.beldi_tree.proofs.Names.map
use Rattle.beldi_tree.proofs.many.Many.copy.Goals as goal

-- what is left of a map where it has nothing, or a map with nothing
nothing_more : (o : Option Value) → option_or o None ≡ o
nothing_more None = refl
nothing_more (Some v) = refl

-- all entries are left, and nothing is copied
none_copied : (es fs : List (List ℕ × Value)) (old copy : Bindings) → IsStrictlySortedBy (slice_cmp nat_cmp) (keys_of fs) → es ≡ fs → map.from_entries fs ≡ old → copy ≡ map.empty → IsCopied (slice_cmp nat_cmp) copy old es
none_copied es fs old copy s r p q = subst (IsCopied (slice_cmp nat_cmp) copy old) (sym r) (record {
  sorted = s;
  together = λ k.
      ap (λ m. option_or (lookup (is_at (slice_cmp nat_cmp k)) fs) (map.get m k)) q
      ∙ ap (option_or (lookup (is_at (slice_cmp nat_cmp k)) fs)) (map.get-empty (slice_cmp nat_cmp) k)
      ∙ nothing_more (lookup (is_at (slice_cmp nat_cmp k)) fs) ∙ sym (get_made nat_list_cmp_total fs k) ∙ ap (λ m. map.get m k) p;
})

one_more : (copy more old : Bindings) (k l : List ℕ) (v w : Value) (es fs : List (List ℕ × Value)) → IsCopied (slice_cmp nat_cmp) copy old es → es ≡ (k, v) ∷ fs → more ≡ map.insert copy l w → l ≡ k → w ≡ v → IsCopied (slice_cmp nat_cmp) more old fs
one_more copy more old k l v w es fs h p q r s =
    subst (λ m. IsCopied (slice_cmp nat_cmp) m old fs) (ap₂ (map.insert copy) (sym r) (sym s) ∙ sym q)
    (one_copied nat_list_cmp_total (slice_cmp-IsAntisymmetric nat_cmp-IsAntisymmetric) copy old k v fs (subst (IsCopied (slice_cmp nat_cmp) copy old) p h))

pub loop-name-init : goal.loop-name-init
loop-name-init c = none_copied c.into_iter-name-iterator.result c.self.inside.entries.entries c.args.self.now c.new-copy.result c.iter-name-items.ensures.ordered (c.into_iter-name-iterator.ensures.into_iter_gives ∙ c.iter-name-items.ensures.rest) c.self.view_is c.new-copy.ensures

pub loop-name-preserved : goal.loop-name-preserved
loop-name-preserved c =
    one_more c.loop-name.copy c.set.new.self c.args.self.now c.in-Some.name.now c.in-Some.name.now c.in-Some.value.now c.in-Some.value.now c.loop-name.name-iterator c.next.new.self c.loop-name.invariant
    (search rules) (search rules) (search rules) (search rules)

pub returns : goal.returns
returns c = all_copied nat_list_cmp_total (slice_cmp-IsAntisymmetric nat_cmp-IsAntisymmetric) c.loop-name.copy c.args.self.now (subst (IsCopied (slice_cmp nat_cmp) c.loop-name.copy c.args.self.now) (c.in-None.ensures.steps.0) c.loop-name.invariant)
