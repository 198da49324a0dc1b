-- The hops of an id and the text of a key, read item by item.
use Rattle.std.proofs.Common.{◌≡◌, ◌≤◌, ℕ, zero, suc, Option, Some, None, List, [], ◌∷◌, ◌++◌, length, length-append, refl, sym, subst, arith}
use Rattle.beldi_bytes.specs.declared.cursor.ReadErr.{ReadErr}
use Rattle.beldi_bytes.specs.Coding.{Refuses, Any, option_bytes}
use Rattle.beldi_bytes.specs.KeyBytes.{four, hops_bytes, text_bytes, char_bytes, AreFew}
use Rattle.beldi_bytes.proofs.Exact.{four_exact, option_exact, char_exact}
use Rattle.beldi_bytes.proofs.Midway.{Midway, next_marked, whole_marked, stopped_marked}

abbrev ToHops : List ℕ → List ℕ → List ℕ → Type 0
ToHops old left done = Midway ℕ hops_bytes AreFew old left done

pub next_hop : (old left new done : List ℕ) (o : Option ℕ) (h : ℕ) → ToHops old left done → left ≡ option_bytes four o new → o ≡ Some h → ToHops old new (done ++ h ∷ [])
next_hop = next_marked hops_bytes (option_bytes four) AreFew (option_exact four four_exact) (λ s. refl) (λ x u s. refl)

pub all_hops : (old left new done : List ℕ) (o : Option ℕ) → ToHops old left done → left ≡ option_bytes four o new → o ≡ None → old ≡ hops_bytes done new
all_hops = whole_marked hops_bytes (option_bytes four) AreFew (option_exact four four_exact) (λ s. refl) (λ x u s. refl)

pub no_hop : (old left done : List ℕ) (why : ReadErr) → ToHops old left done → Refuses (option_bytes four) Any left why → Refuses hops_bytes AreFew old why
no_hop = stopped_marked hops_bytes (option_bytes four) AreFew (option_exact four four_exact) (λ s. refl) (λ x u s. refl) Any (λ o. tt)

-- one more than there may be
pub too_many : (old left new done : List ℕ) (o : Option ℕ) (h : ℕ) → ToHops old left done → left ≡ option_bytes four o new → o ≡ Some h → 63 ≤ length done
    → (v s : List ℕ) → AreFew v → old ≡ hops_bytes v s → ⊥
too_many old left new done o h m e is many v s few f =
    let p = (next_hop old left new done o h m e is).back v s few f in
    let q : length ((done ++ h ∷ []) ++ p.0) ≤ 63 = subst (λ x. length x ≤ 63) (sym p.1) few in
    absurd (omega (arith, length-append (done ++ h ∷ []) p.0, length-append done (h ∷ [])))

abbrev ToText : List ℕ → List ℕ → List ℕ → Type 0
ToText old left done = Midway ℕ text_bytes Any old left done

at_char : (x : ℕ) (u s : List ℕ) → text_bytes (x ∷ u) s ≡ char_bytes (Some x) (text_bytes u s)
at_char zero u s = refl
at_char (suc x) u s = refl

pub next_char : (old left new done : List ℕ) (o : Option ℕ) (c : ℕ) → ToText old left done → left ≡ char_bytes o new → o ≡ Some c → ToText old new (done ++ c ∷ [])
next_char = next_marked text_bytes char_bytes Any char_exact (λ s. refl) at_char

pub all_chars : (old left new done : List ℕ) (o : Option ℕ) → ToText old left done → left ≡ char_bytes o new → o ≡ None → old ≡ text_bytes done new
all_chars = whole_marked text_bytes char_bytes Any char_exact (λ s. refl) at_char

pub no_char : (old left done : List ℕ) (why : ReadErr) → ToText old left done → Refuses char_bytes Any left why → Refuses text_bytes Any old why
no_char = stopped_marked text_bytes char_bytes Any char_exact (λ s. refl) at_char Any (λ o. tt)
