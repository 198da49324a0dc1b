-- What comes and goes on a connection, one thing after another.
use Rattle.beldi_gateway.proofs.Names.{Connection, Connections, EndsAt, Err, Failed, Gathers, HasEnded, HeadGathers, LinkRead, LinkWrote, List, Lost, Moved, Moves, None, Ok, Option, ReadOpen, Scan, Some, Observed, Went, WentOn, WriteOpen, [], ap, append-nil, append_assoc, arith, drop, failed_once, false, inr, length, length-append, refl, scan_on, start, subst, sym, take, take-append-drop, take_more, told_map, told_same, told_then, took, true, wrote, ℕ, ◌++◌, ◌+◌, ◌∙◌, ◌∷◌, ◌≡◌, ◌≤◌}

nothing : (a b : List ℕ) → a ≡ [] → b ≡ [] → a ++ b ≡ []
nothing a b p q = ap (λ x. x ++ b) p ∙ q

went_then : (y w z v : List ℕ) (c d e : Connection) → Went y w c d → Went z v d e → Went (y ++ z) (w ++ v) c e
went_then y w z v c d e p q = record {
  taken = q.taken ∙ ap (λ x. x ++ z) p.taken ∙ append_assoc c.taken y z;
  left = p.left ∙ ap (λ x. y ++ x) q.left ∙ sym (append_assoc y z e.left);
  written = q.written ∙ ap (λ x. x ++ v) p.written ∙ append_assoc c.written w v;
}

went_on_then : (y w z v : List ℕ) (a b c : Option Connection) → WentOn y w a b → WentOn z v b c → WentOn (y ++ z) (w ++ v) a c
went_on_then y w z v None b c p q =
    let r = subst (λ o. WentOn z v o c) p.0 q in
    (r.0, nothing y z p.1 r.1, nothing w v p.2 r.2)
went_on_then y w z v (Some a) b c p q =
    let r = subst (λ o. WentOn z v o c) p.1 q in
    (r.0, r.1, went_then y w z v a p.0 r.0 p.2 r.2)

moved_then : (y w z v : List ℕ) (s t u : Connections) → Moved y w s t → Moved z v t u → Moved (y ++ z) (w ++ v) s u
moved_then y w z v s t u p q = (went_on_then y w z v s.current t.current u.current p.0 q.0, q.1 ∙ p.1)

pub moves_then : (y w z v : List ℕ) (a b c : Option Connections) → Moves y w a b → Moves z v b c → Moves (y ++ z) (w ++ v) a c
moves_then y w z v a b c = told_then {P = Moved y w} {Q = Moved z v} {R = Moved (y ++ z) (w ++ v)} a b c (moved_then y w z v)

stays : (c d : Connection) → d.taken ≡ c.taken → d.left ≡ c.left → d.written ≡ c.written → Went [] [] c d
stays c d p q r = record {
  taken = p ∙ sym (append-nil c.taken);
  left = sym q;
  written = r ∙ sym (append-nil c.written);
}

never : false ≡ true → ⊥
never p = cc

read_on : (buf : List ℕ) (n : ℕ) (a b : Option Connection) → ReadOpen buf (Ok n) a b → WentOn (take n buf) [] a b
read_on buf n None b p = absurd (never p.0)
read_on buf n (Some c) b p = (
  took n c,
  p.1,
  record {
    taken = ap (λ x. c.taken ++ x) (sym p.0.2);
    left = sym (ap (λ x. x ++ drop n c.left) p.0.2 ∙ take-append-drop n c.left);
    written = sym (append-nil c.written);
  },
)

write_on : (bytes : List ℕ) (n : ℕ) (a b : Option Connection) → WriteOpen bytes (Ok n) a b → WentOn [] (take n bytes) a b
write_on bytes n None b p = absurd (never p.0)
write_on bytes n (Some c) b p = (
  wrote bytes n c,
  p,
  record {
    taken = sym (append-nil c.taken);
    left = refl;
    written = refl;
  },
)

write_err : (bytes : List ℕ) (e : Failed) (a b : Option Connection) → WriteOpen bytes (Err e) a b → WentOn [] [] a b
write_err bytes e None b p = (p.1, refl, refl)
write_err bytes e (Some c) b p = (failed_once c, p, stays c (failed_once c) refl refl refl)

pub reads : (buf : List ℕ) (n : ℕ) (a b : Option Connections) → Observed a b (LinkRead buf (Ok n)) → Moves (take n buf) [] a b
reads buf n a b = told_map {P = LinkRead buf (Ok n)} {Q = Moved (take n buf) []} a b (λ s t p. (read_on buf n s.current t.current p.0, p.1))

pub writes : (bytes : List ℕ) (n : ℕ) (a b : Option Connections) → Observed a b (LinkWrote bytes (Ok n)) → Moves [] (take n bytes) a b
writes bytes n a b = told_map {P = LinkWrote bytes (Ok n)} {Q = Moved [] (take n bytes)} a b (λ s t p. (write_on bytes n s.current t.current p.0, p.1))

pub writes_none : (bytes : List ℕ) (e : Failed) (a b : Option Connections) → Observed a b (LinkWrote bytes (Err e)) → Moves [] [] a b
writes_none bytes e a b = told_map {P = LinkWrote bytes (Err e)} {Q = Moved [] []} a b (λ s t p. (write_err bytes e s.current t.current p.0, p.1))

same_option : (o : Option Connection) → WentOn [] [] o o
same_option None = (refl, refl, refl)
same_option (Some c) = (c, refl, stays c c refl refl refl)

pub moves_none : (a : Option Connections) → Moves [] [] a a
moves_none a = told_same (Moved [] []) a (λ s. (same_option s.current, refl))

pub gathers_then : (a b c : Option Connections) (x y z : List ℕ) → Gathers a b x y → Gathers b c y z → Gathers a c x z
gathers_then a b c x y z p q = record {
  took = p.took ++ q.took;
  into = q.into ∙ ap (λ r. r ++ q.took) p.into ∙ append_assoc x p.took q.took;
  moves = moves_then p.took [] q.took [] a b c p.moves q.moves;
}

pub lost_then : (a b c : Option Connections) (y : List ℕ) → Moves y [] a b → Lost b c → Lost a c
lost_then a b c y p q = (y ++ q.0, moves_then y [] q.0 [] a b c p q.1)

pub ends_then : (a b c : Option Connections) (y w : List ℕ) → Moves y w a b → EndsAt b c → EndsAt a c
ends_then a b c y w = told_then {P = Moved y w} {Q = λ s t. HasEnded t.current} {R = λ s t. HasEnded t.current} a b c (λ s t u p q. q)

-- a write that took nothing, and one that took something
pub wrote_nothing : (w p : List ℕ) (e : Failed) (a b c : Option Connections) → Moves [] w a b → Observed b c (LinkWrote p (Err e)) → Moves [] w a c
wrote_nothing w p e a b c m k = subst (λ x. Moves [] x a c) (append-nil w) (moves_then [] w [] [] a b c m (writes_none p e b c k))

pub wrote_more : (at n : ℕ) (bytes : List ℕ) (a b c : Option Connections) → Moves [] (take at bytes) a b → Observed b c (LinkWrote (drop at bytes) (Ok n)) → Moves [] (take (at + n) bytes) a c
wrote_more at n bytes a b c m k = subst (λ x. Moves [] x a c) (sym (take_more at n bytes)) (moves_then [] (take at bytes) [] (take n (drop at bytes)) a b c m (writes (drop at bytes) n b c k))

-- what was gathered grows
pub head_grows : (a b c : Option Connections) (x y : List ℕ) → Moves x [] a b → Gathers b c x y → Moves y [] a c
head_grows a b c x y m g = subst (λ z. Moves z [] a c) (sym g.into) (moves_then x [] g.took [] a b c m g.moves)

no_bytes : (t : List ℕ) → length t ≡ 0 → t ≡ []
no_bytes [] h = refl
no_bytes (x ∷ xs) h = absurd (omega (arith, h))

same_bytes : (a b : Option Connections) (x y : List ℕ) → Gathers a b x y → length y ≡ length x + 0 → y ≡ x
same_bytes a b x y g h =
    let n : length g.took ≡ 0 = omega (arith, h, ap length g.into, length-append x g.took) in
    g.into ∙ ap (λ t. x ++ t) (no_bytes g.took n) ∙ append-nil x

pub head_ends : (a b c : Option Connections) (x y : List ℕ) (s : Scan) → Moves x [] a b → s ≡ scan_on start x → length x ≤ 16384 → s.size ≤ length x
    → Gathers b c x y → length y ≡ length x + 0 → EndsAt b c → HeadGathers a c y (Ok s)
head_ends a b c x y s m scan short size g h ends =
    let e = same_bytes b c x y g h in (
      head_grows a b c x y m g,
      scan ∙ ap (scan_on start) (sym e),
      subst (λ z. length z ≤ 16384) (sym e) short,
      subst (λ z. s.size ≤ length z) (sym e) size,
      inr (inr (ends_then a b c x [] m ends)),
    )

nothing_behind : (y z : List ℕ) → y ++ z ≡ [] → z ≡ []
nothing_behind [] z e = e
nothing_behind (x ∷ y) z e = absurd (omega (arith, ap length e))

ended_on : (y w : List ℕ) (a b : Option Connection) → HasEnded a → WentOn y w a b → HasEnded b
ended_on y w None b h p = absurd h
ended_on y w (Some c) b h p = subst HasEnded (sym p.1) (nothing_behind y p.0.left (sym p.2.left ∙ h))

-- a connection that has ended stays so
pub ended_stays : (y w : List ℕ) (a b c : Option Connections) → EndsAt a b → Moves y w b c → EndsAt a c
ended_stays y w a b c = told_then {P = λ s t. HasEnded t.current} {Q = Moved y w} {R = λ s t. HasEnded t.current} a b c (λ s t u p q. ended_on y w t.current u.current p q.0)
