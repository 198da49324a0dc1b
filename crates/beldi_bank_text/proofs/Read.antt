-- The text of the bank, read.
use Rattle.std.proofs.Common.{arith, ◌≡◌, ℕ, ◌+◌, ◌-◌, ◌++◌, List, [], ◌∷◌, length, length-append, Ok, refl, ap, ap₂, ◌∙◌}
use Rattle.std.specs.Prelude.{if◌then◌else◌, take as front, drop, None, Some}
use Rattle.std.specs.Str.{Lossy.utf8_valid_len}
use Rattle.beldi_tree.specs.declared.deployment.Deployment.{Deployment}
use Rattle.beldi_syntax.specs.{Phrase.got, Deployments.code_at, Deployments.code_of, Deployments.deployment, Deployments.line_past, Deployments.parsed, Deployments.parsed_at, Deployments.parts_at, Deployments.script_at, Deployments.size_fault, Deployments.unless, Deployments.with_script, Expressions.expr_at, Lexer.lexemes, Lexer.to_script, Statements.block_at, declared.refusal.What.TheVariants.TooLarge, declared.refusal.What.TheVariants.Utf8}
use Rattle.beldi_bank.specs.Bank.{bank_code}
use Rattle.beldi_generator.specs.Generated.{bank}
use Rattle.beldi_bank_text.specs.BankText.{TextIsTheBank}
use Rattle.beldi_bank_text.proofs.TextWords.{bytes_are, low_utf8, tokens, tokens_are}

-- up to the word `script`
abbrev bank_text : List ℕ
bank_text = front 274 bank

ends_at : (script : List ℕ) → to_script 0 (bank ++ script) ≡ 274
ends_at script = bytes_are 0 (bank ++ script)

bank_is : deployment (tokens 0 1 bank_text) ≡ got bank_code []
unfolding expr_at block_at
bank_is = refl

code_is : code_at bank_text ≡ Ok bank_code
code_is =
    ap (λ b. unless (if b then None else Some (line_past (front (utf8_valid_len bank_text) bank_text))) Utf8 (unless (size_fault bank_text) TooLarge (code_of (deployment (lexemes 0 1 bank_text))))) (low_utf8 bank_text refl)
    ∙ ap (λ ts. code_of (deployment ts)) (tokens_are 0 1 bank_text) ∙ ap code_of bank_is

-- by the deployment's own bytes, and those that follow them
parsed_so : (bytes text more : List ℕ) (code : Deployment) (n : ℕ) → to_script 0 bytes ≡ n → front n bytes ≡ text → drop n bytes ≡ more → code_at text ≡ Ok code → parsed_at bytes ≡ parsed bytes text code (script_at more)
parsed_so bytes text more code n e f g h =
    ap (λ k. parts_at bytes (front k bytes) (drop k bytes)) e ∙ ap₂ (parts_at bytes) f g ∙ ap (with_script bytes text more) h

rest_is : (n m : ℕ) → m ≡ 275 + n → m - n ≡ 275
rest_is n m h = omega (arith, h)

ended : (bytes script : List ℕ) → length bytes ≡ 275 + length script → parsed bytes bank_text bank_code (script_at (10 ∷ script)) ≡ Ok (record { code = bank_code; rest = 275; line = 6 })
ended bytes script h = ap (λ n. Ok (record { code = bank_code; rest = n; line = 6 })) (rest_is (length script) (length bytes) h)

front_is : (script : List ℕ) → front 274 (bank ++ script) ≡ bank_text
front_is script = refl

more_is : (script : List ℕ) → drop 274 (bank ++ script) ≡ 10 ∷ script
more_is script = refl

long : (script : List ℕ) → length (bank ++ script) ≡ 275 + length script
long script = length-append bank script

pub text_is_the_bank : TextIsTheBank
text_is_the_bank script = parsed_so (bank ++ script) bank_text (10 ∷ script) bank_code 274 (ends_at script) (front_is script) (more_is script) code_is ∙ ended (bank ++ script) script (long script)
