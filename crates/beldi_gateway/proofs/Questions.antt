-- The question of a request, by the text of its path.
use Rattle.std.proofs.Common.{Bool, List, None, Ok, Option, Result, Some, [], ap, ap₂, arith, decimal, false, length, not, refl, subst, sym, true, ℕ, ◌&&◌, ◌++◌, ◌-◌, ◌<◌, ◌==◌, ◌^◌, ◌∙◌, ◌∷◌, ◌≡◌}
use Rattle.std.{proofs.lemmas.Bool.Decides.nat_tests, proofs.lemmas.Bool.and_parts, proofs.lemmas.Fmt.decimal_nonempty, proofs.lemmas.Fmt.digits_decimal, specs.Char.is_ascii_digit, specs.List.list_all, specs.Str.all_ascii_digits, specs.Str.is_utf8}
use Rattle.beldi_value.proofs.Ints.{numeral_back, numeral_of, numeral_within, own}
use Rattle.beldi_value.specs.{ByteCut.after, ByteCut.before, Datum.Datum}
use Rattle.beldi_gateway.specs.{declared.response.Refusal.Refusal, declared.route.Endpoint.Endpoint, declared.route.Endpoint.TheVariants.Tickets, declared.route.Endpoint.TheVariants.Call, declared.route.Endpoint.TheVariants.Reply, Exchange.Question, Exchange.args_at, Exchange.ask_call, Exchange.ask_reply, Exchange.ask_ticket, Exchange.call_question, Exchange.question_of, Exchange.reply_question, Exchange.ticket_at, GatewayLaws.AreBytes, GatewayLaws.Asks, GatewayLaws.HasForm, GatewayLaws.IsJustText, GatewayLaws.call_path, GatewayLaws.is_part, GatewayLaws.reply_path, Route.endpoint_at, Route.function_part, Route.rest_or_none, Route.ticket_part}
use Rattle.beldi_gateway.proofs.Forms.{paths_have_forms}

-- ---- the parts of a path
no_mark : (f t : List ℕ) → list_all (λ c. not (c == 47)) f ≡ true → (before 47 (f ++ 47 ∷ t) ≡ f) × (after 47 (f ++ 47 ∷ t) ≡ Some t)
no_mark [] t e = (refl, refl)
no_mark (b ∷ f) t e = by (no_mark f t) (b == 47) refl e
  where
    by : (list_all (λ c. not (c == 47)) f ≡ true → (before 47 (f ++ 47 ∷ t) ≡ f) × (after 47 (f ++ 47 ∷ t) ≡ Some t))
        → (v : Bool) → (b == 47) ≡ v → (not v && list_all (λ c. not (c == 47)) f) ≡ true
        → (before 47 (b ∷ (f ++ 47 ∷ t)) ≡ b ∷ f) × (after 47 (b ∷ (f ++ 47 ∷ t)) ≡ Some t)
    by go true is h = cc
    by go false is h = (rw is (ap (λ r. b ∷ r) (go h).0), rw is (go h).1)

plain_part : (f : List ℕ) → is_part f ≡ true → list_all (λ c. not (c == 47)) f ≡ true
plain_part [] e = refl
plain_part (b ∷ f) e = e

call_parts : (f t : List ℕ) → is_part f ≡ true → (function_part (call_path f t) ≡ f) × (ticket_part Call (call_path f t) ≡ t)
call_parts f t e =
    let h = no_mark f t (plain_part f e) in
    (h.0, ap rest_or_none h.1)

-- a number in decimal is a part
no_digit : (bs : List ℕ) → all_ascii_digits bs ≡ true → list_all (λ c. not (c == 47)) bs ≡ true
no_digit [] e = refl
no_digit (b ∷ bs) e =
    let h = and_parts (is_ascii_digit b) (all_ascii_digits bs) e in
    let n : (b == 47) ≡ false = grind (arith, nat_tests, h.0) in
    rw n (no_digit bs h.1)

decimal_part : (n : ℕ) → n < 2 ^ 64 → is_part (decimal n) ≡ true
decimal_part n h = by (decimal n) (decimal_nonempty n h) (no_digit (decimal n) (digits_decimal own n h))
  where
    by : (bs : List ℕ) → 0 < length bs → list_all (λ c. not (c == 47)) bs ≡ true → is_part bs ≡ true
    by [] some e = absurd (omega (arith, some))
    by (b ∷ bs) some e = e

-- ---- what is asked
same_ok : (p q : Question) → ◌≡◌ {A = Result Question Refusal} (Ok p) (Ok q) → p ≡ q
same_ok p q e = cc

module _ (funcs : List ℕ → Option ℕ) (body : List ℕ) where
  by_parts : (f t : List ℕ) → is_part f ≡ true → question_of funcs Call (call_path f t) body ≡ call_question (ticket_at t) (funcs f) (args_at body)
  by_parts f t part =
      let h = call_parts f t part in
      ap₂ (λ x y. call_question (ticket_at x) (funcs y) (args_at body)) h.1 h.0

  call_of : (f t : List ℕ) (q : Question) → is_part f ≡ true → (o : Option ℕ) (g : Option ℕ) (v : Option Datum) → ticket_at t ≡ o → funcs f ≡ g → args_at body ≡ v → call_question o g v ≡ Ok q → Asks funcs (call_path f t) body q
  call_of f t q part None g v a b c e = cc
  call_of f t q part (Some n) None v a b c e = cc
  call_of f t q part (Some n) (Some g) None a b c e = cc
  call_of f t q part (Some n) (Some g) (Some d) a b c e =
      let small = numeral_within (2 ^ 32 - 1) n t a in
      subst (λ z. Asks funcs (call_path f t) body z) (same_ok (ask_call n g d) q e)
      (f, part, omega (arith, small), b, c, ap (call_path f) (sym (numeral_back (2 ^ 32 - 1) n t (omega arith) a)))

  reply_of : (t : List ℕ) (q : Question) (o : Option ℕ) → ticket_at t ≡ o → reply_question o ≡ Ok q → Asks funcs (reply_path t) body q
  reply_of t q None a e = cc
  reply_of t q (Some n) a e =
      let small = numeral_within (2 ^ 32 - 1) n t a in
      subst (λ z. Asks funcs (reply_path t) body z) (same_ok (ask_reply n) q e) (omega (arith, small), ap reply_path (sym (numeral_back (2 ^ 32 - 1) n t (omega arith) a)))

  written : (e : Endpoint) (path : List ℕ) (q : Question) → HasForm e path → question_of funcs e path body ≡ Ok q → Asks funcs path body q
  written Tickets path q h e = subst (λ z. Asks funcs path body z) (same_ok ask_ticket q e) h
  written Call path q h e = subst (λ p. question_of funcs Call p body ≡ Ok q → Asks funcs p body q) (sym h.4)
      (λ g. call_of h.0 h.1 q h.2 (ticket_at h.1) (funcs h.0) (args_at body) refl refl refl (sym (by_parts h.0 h.1 h.2) ∙ g)) e
  written Reply path q h e = subst (λ p. question_of funcs Reply p body ≡ Ok q → Asks funcs p body q) (sym h.2) (reply_of h.0 q (ticket_at h.0) refl) e

  asked : (path : List ℕ) (q : Question) → AreBytes path → is_utf8 path ≡ true → Asks funcs path body q → (e : Endpoint) × (endpoint_at path ≡ Some e) × (question_of funcs e path body ≡ Ok q)
  asked path ask_ticket a text h = (Tickets, (paths_have_forms path Tickets a).found text h, refl)
  asked path (ask_call t f d) a text h = (
    Call,
    (paths_have_forms path Call a).found text (h.0, decimal t, h.1, decimal_part t (omega (arith, h.2)), h.5),
    subst (λ p. question_of funcs Call p body ≡ Ok (ask_call t f d)) (sym h.5)
        (by_parts h.0 (decimal t) h.1 ∙ ap (λ o. call_question o (funcs h.0) (args_at body)) (numeral_of (2 ^ 32 - 1) t (omega (arith, h.2)) (omega (arith, h.2)))
        ∙ ap₂ (λ g v. call_question (Some t) g v) h.3 h.4),
  )
  asked path (ask_reply t) a text h = (
    Reply,
    (paths_have_forms path Reply a).found text (decimal t, decimal_part t (omega (arith, h.0)), h.1),
    subst (λ p. question_of funcs Reply p body ≡ Ok (ask_reply t)) (sym h.1) (ap reply_question (numeral_of (2 ^ 32 - 1) t (omega (arith, h.0)) (omega (arith, h.0)))),
  )

pub questions_are_written : (funcs : List ℕ → Option ℕ) (path body : List ℕ) (q : Question) → AreBytes path → IsJustText funcs path body q
questions_are_written funcs path body q a = record {
  written = λ e is h. written funcs body e path q ((paths_have_forms path e a).formed is).1 h;
  asked = asked funcs body path q a;
}
