use Rattle.std.proofs.Common.{◌≡◌, [], ◌++◌, drop, length-drop, sym, ap, ◌∙◌, arith}
use Rattle.std.proofs.lemmas.List.{nil_from_length}
use Rattle.beldi_bytes.specs.KeyBytes.{hops_bytes}
use Rattle.beldi_bytes.proofs.key_out.put_hops.Goals as goal

pub returns : goal.returns
returns c = λ s.
    let xs = c.args.hops.now in
    let i = c.loop-hop.hop-index in
    let none : drop i xs ≡ [] = nil_from_length (drop i xs) (omega (arith, length-drop i xs)) in
    c.in_ok-put_byte-2.ensures s ∙ ap (λ l. c.loop-hop.out.items ++ hops_bytes l s) (sym none) ∙ c.loop-hop.invariant s
