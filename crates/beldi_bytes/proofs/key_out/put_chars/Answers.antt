use Rattle.std.proofs.Common.{◌≡◌, [], ◌∷◌, ◌++◌, drop, length-drop, sym, ap, ◌∙◌, arith}
use Rattle.std.proofs.lemmas.List.{nil_from_length}
use Rattle.beldi_bytes.specs.KeyBytes.{text_bytes}
use Rattle.beldi_bytes.proofs.key_out.put_chars.Goals as goal

pub returns : goal.returns
returns c = (
  λ s.
      let xs = c.as_bytes-byte-items.result.now in
      let i = c.loop-byte.byte-index in
      let none : drop i xs ≡ [] = nil_from_length (drop i xs) (omega (arith, length-drop i xs)) in
      c.in_ok-put_byte-2.ensures s ∙ c.in_ok-put_byte.ensures (0 ∷ s) ∙ ap (λ l. c.loop-byte.out.items ++ text_bytes l s) (sym none) ∙ c.loop-byte.invariant s ∙ ap (λ l. c.args.out.now.items ++ text_bytes l s) c.as_bytes-byte-items.ensures.value,
  c.utf8.text,
)
