use Rattle.std.proofs.Common.{◌≡◌, sym, ap, subst, ◌∙◌}
use Rattle.std.specs.Prelude.{IsUtf8, false, true}
use Rattle.std.proofs.lemmas.Str.{IsUtf8-string_bytes}
use Rattle.beldi_bytes.specs.KeyBytes.{text_bytes}
use Rattle.beldi_bytes.proofs.Exact.{text_exact}
use Rattle.beldi_bytes.proofs.key_in.read_text.Goals as goal

pub returns-in_ok-from_string-in-Ok-from_utf8 : goal.returns-in_ok-from_string-in-Ok-from_utf8
returns-in_ok-from_string-in-Ok-from_utf8 c =
    let text = c.in_ok-from_string-in-Ok-from_utf8.field-0 in
    let e : text ≡ c.in-Ok.value = c.in_ok-from_string-in-Ok-from_utf8.ensures ∙ ap (λ v. v.items) c.in-Ok-from_utf8.ensures.ok ∙ c.into_vec-bytes.ensures in
    (c.in-Ok.ensures.0 ∙ ap (λ b. text_bytes b c.read_chars.new.from) (sym e), subst IsUtf8 (sym c.in_ok-from_string-in-Ok-from_utf8.ensures) (IsUtf8-string_bytes c.in-Ok-from_utf8.text))

pub returns-in-Err-from_utf8 : goal.returns-in-Err-from_utf8
returns-in-Err-from_utf8 c = λ x s i e.
    let same = (text_exact _ _ _ _ (sym c.in-Ok.ensures.0 ∙ e)).0 in
    let no : false ≡ true = c.in-Err-from_utf8.ensures.succeeds (subst IsUtf8 (sym same ∙ sym c.into_vec-bytes.ensures) i) in cc
