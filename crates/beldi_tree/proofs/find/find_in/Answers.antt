use Rattle.beldi_tree.proofs.Names.{Command, Func, List, TableHead, ap, get_or, get_or-set_same, length, set, set-get_or, set-set, ℕ, ◌<◌, ◌∙◌, ◌≡◌}
use Rattle.beldi_tree.proofs.find.find_in.Goals as goal

abbrev made : Func → List TableHead → List Command → Func
made f ts b = record { name = f.name; param = f.param; tables = ts; body = b; line = f.line }

-- a function that was put back with its body is the one that it was
put_back : (xs : List Func) (i : ℕ) (f h d : Func) (ts : List TableHead) (b c : List Command) → i < length xs → f ≡ get_or xs i d → ts ≡ f.tables → c ≡ f.body → h ≡ get_or (set xs i (made f ts b)) i h → set (set xs i (made f ts b)) i (made h h.tables c) ≡ xs
put_back xs i f h d ts b c within is tables body again =
    let other : h ≡ made f ts b = again ∙ get_or-set_same xs i (made f ts b) h within in
    set-set xs i (made f ts b) (made h h.tables c)
    ∙ ap (λ g. set xs i (made g g.tables c)) other
    ∙ ap (λ us. set xs i (made f us c)) tables
    ∙ ap (λ e. set xs i (made f f.tables e)) body
    ∙ ap (λ g. set xs i g) is
    ∙ set-get_or xs i d

pub returns : goal.returns
returns c =
    put_back c.args.funcs.now.items c.args.place c.index_mut-func.result.now c.index_mut.result.now _ c.see_apart.new.self c.replace-body.new.dest c.find_names.new.self c.requires c.index_mut-func.ensures.value c.see_apart.ensures (c.find_names.ensures ∙ c.replace-body.ensures.value) c.index_mut.ensures.value
