-- What a head and the bytes behind it come to.
use Rattle.beldi_gateway.proofs.Names.{Answered, Bool, Call, Connections, Datum, Endpoint, EndsAt, Err, Filled, Gathers, Keeps, List, None, Option, Reply, Response, Some, Tickets, Want, ap, args_at, call_question, function_part, if◌then◌else◌, inl, inr, le-leb, length, nat_le, question_of, refl, reply_question, subst, sym, take, ticket_at, ticket_part, with_body, ℕ, ◌∙◌, ◌≡◌, ◌≤◌, ◌⊎◌, Refusal}

reply_whole : (t : Option ℕ) → reply_question t ≡ Err Refusal.Cut → ⊥
reply_whole None e = cc
reply_whole (Some t) e = cc

call_whole : (t f : Option ℕ) (d : Option Datum) → call_question t f d ≡ Err Refusal.Cut → ⊥
call_whole None f d e = cc
call_whole (Some t) None d e = cc
call_whole (Some t) (Some f) None e = cc
call_whole (Some t) (Some f) (Some d) e = cc

-- no question is refused because the connection ended
pub question_whole : (funcs : List ℕ → Option ℕ) (e : Endpoint) (path body : List ℕ) → question_of funcs e path body ≡ Err Refusal.Cut → ⊥
question_whole funcs Tickets path body e = cc
question_whole funcs Call path body e = call_whole (ticket_at (ticket_part Call path)) (funcs (function_part path)) (args_at body) e
question_whole funcs Reply path body e = reply_whole (ticket_at (ticket_part Reply path)) e

open_cut : (funcs : List ℕ → Option ℕ) (w : Want) (path body : List ℕ) (b : Bool) → nat_le w.size (length body) ≡ b → w.size ≤ length body → with_body funcs w path body ≡ Err Refusal.Cut → ⊥
open_cut funcs w path body b is h e = question_whole funcs w.endpoint path (take w.size body) (sym (ap (λ t. if t then question_of funcs w.endpoint path (take w.size body) else Err Refusal.Cut) (le-leb w.size (length body) h)) ∙ e)

-- a body that came whole is not cut, so the connection ended where it is
module _ {D : Type 0} (funcs : List ℕ → Option ℕ) (keeps : Keeps D) where
  ends_by : (w : Want) (path body : List ℕ) (a b : Option Connections) → ((w.size ≤ length body) ⊎ EndsAt a b) → with_body funcs w path body ≡ Err Refusal.Cut → EndsAt a b
  ends_by w path body a b (inl h) e = absurd (open_cut funcs w path body (nat_le w.size (length body)) refl h e)
  ends_by w path body a b (inr ends) e = ends

  pub filled : (w : Want) (path rest body : List ℕ) (before after : D) (a b : Option Connections) (x : Response) → Gathers a b rest body → ((w.size ≤ length body) ⊎ EndsAt a b)
      → Answered keeps (with_body funcs w path body) before x after → Filled funcs keeps w path rest before after a b x
  filled w path rest body before after a b x g whole h = record {
    took = g.took;
    moves = g.moves;
    answered = subst (λ z. Answered keeps (with_body funcs w path z) before x after) g.into h;
    ends = λ e. ends_by w path body a b whole (ap (with_body funcs w path) g.into ∙ e);
  }
