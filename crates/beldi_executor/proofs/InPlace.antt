-- What a transaction has set in place: put back, and as it sees it.
use Rattle.beldi_executor.proofs.Names.{AllHaveRoom, Bool, Effect, HasRoom, Instance, IsUndone, Item, Items, List, None, OnItem, Option, Some, Value, Was, [], all_back, all_swept, answer_after, answer_by, answer_if, ap, back, cond, eq_by_cmp_equiv, false, get-insert, get-remove, is_eq, is_some, item_cmp, item_exact, item_in, item_of, item_total, item_was, items_if, keeps, kept_in, op_of, or_null, put_in, puts, refl, same_map, set_if, set_item, sets, subst, swept, swept_if, sym, true, was, ℕ, ◌++◌, ◌∙◌, ◌∷◌, ◌≡◌, Answer}
use Rattle.beldi_executor.proofs.{ByTable.some_of, ByTable.get_set, Finite.same_key, Finite.set_removed, Finite.there}
use Rattle.beldi_executor.proofs.Names.map

-- ---- put back

pub back_last : (m : Items) (ws : List Was) (w : Was) → all_back m (ws ++ w ∷ []) ≡ all_back (back m (item_was w) w.value) ws
back_last m [] w = refl
back_last m (v ∷ ws) w = ap (λ n. back n (item_was v) v.value) (back_last m ws w)

room_last : (m : Items) (ws : List Was) (w : Was) → HasRoom m (item_was w) w.value → AllHaveRoom (back m (item_was w) w.value) ws → AllHaveRoom m (ws ++ w ∷ [])
room_last m [] w h all = (tt, h)
room_last m (v ∷ ws) w h all = (room_last m ws w h all.0, subst (λ n. HasRoom n (item_was v) v.value) (sym (back_last m ws w)) all.1)

-- the room of the last one, and of those before
pub room_parts : (m : Items) (ws : List Was) (w : Was) → AllHaveRoom m (ws ++ w ∷ []) → HasRoom m (item_was w) w.value × AllHaveRoom (back m (item_was w) w.value) ws
room_parts m [] w h = (h.1, tt)
room_parts m (v ∷ ws) w h =
    let r = room_parts m ws w h.0 in
    (r.0, (r.1, subst (λ n. HasRoom n (item_was v) v.value) (back_last m ws w) h.1))

-- an item that was set is put back
set_again : (m : Items) (x : Item) (u v : Value) → map.get m x ≡ Some u → map.insert (map.insert m x v) x u ≡ m
set_again m x u v here = same_map item_total item_exact _ _ (λ j.
    get-insert item_total (map.insert m x v) x u j
    ∙ ap (cond (is_eq (item_cmp j x)) (Some u)) (get-insert item_total m x v j)
    ∙ elim (is_eq (item_cmp j x)) as (λ b. is_eq (item_cmp j x) ≡ b → cond b (Some u) (cond b (Some v) (map.get m j)) ≡ map.get m j) [
      | true ↦ λ e. sym (ap (map.get m) (same_key item_exact j x e) ∙ here)
      | false ↦ λ e. refl
    ] refl)

back_at : (m : Items) (x : Item) (v : Value) (o : Option Value) → map.get m x ≡ o → back (map.insert m x v) x o ≡ m
back_at m x v None none = set_removed item_total item_exact m x v none
back_at m x v (Some u) here = set_again m x u v here

room_at : (m : Items) (x : Item) (v : Value) (o : Option Value) → HasRoom (map.insert m x v) x o
room_at m x v None = tt
room_at m x v (Some u) = ap is_some (there item_total m x x v ((eq_by_cmp_equiv item_total).refl x))

put_undone : (b m : Items) (ws : List Was) (x : Item) (o : Option Value) → IsUndone b m ws → IsUndone b (put_in m x o) (kept_in m ws x o)
put_undone b m ws x None h = h
put_undone b m ws x (Some v) h =
    let same = back_at m x v (map.get m x) refl in
    let w = was x (map.get m x) in
    record {
      back = back_last (map.insert m x v) ws w ∙ ap (λ n. all_back n ws) same ∙ h.back;
      room = room_last (map.insert m x v) ws w (room_at m x v (map.get m x)) (subst (λ n. AllHaveRoom n ws) (sym same) h.room);
    }

pub puts_undone : (b m : Items) (ws : List Was) (func : ℕ) (o : Option OnItem) → IsUndone b m ws → IsUndone b (puts m func o) (keeps m ws func o)
puts_undone b m ws func None h = h
puts_undone b m ws func (Some o) h = put_undone b m ws (item_in func o) (sets o.does (or_null (map.get m (item_in func o)))) h

-- ---- as it is seen

abbrev no_null : Option Value → Option Value
no_null None = None
no_null (Some Value.Null) = None
no_null (Some v) = Some v

null_so : (o : Option Value) → or_null (no_null o) ≡ or_null o
null_so None = refl
null_so (Some Value.Null) = refl
null_so (Some (Value.Bool b)) = refl
null_so (Some (Value.Int n)) = refl
null_so (Some (Value.Text s)) = refl
null_so (Some (Value.List vs)) = refl
null_so (Some (Value.Rec fs)) = refl

set_so : (v : Value) → no_null (Some v) ≡ some_of v
set_so Value.Null = refl
set_so (Value.Bool b) = refl
set_so (Value.Int n) = refl
set_so (Value.Text s) = refl
set_so (Value.List vs) = refl
set_so (Value.Rec fs) = refl

swept_so : (v : Value) → no_null (some_of v) ≡ some_of v
swept_so Value.Null = refl
swept_so (Value.Bool b) = refl
swept_so (Value.Int n) = refl
swept_so (Value.Text s) = refl
swept_so (Value.List vs) = refl
swept_so (Value.Rec fs) = refl

-- nothing is removed where no null is
stays : (m : Items) (x : Item) (o : Option Value) → map.get m x ≡ o → no_null o ≡ o → (j : Item) → map.get m j ≡ cond (is_eq (item_cmp j x)) (no_null (map.get m j)) (map.get m j)
stays m x o here plain j =
    elim (is_eq (item_cmp j x)) as (λ b. is_eq (item_cmp j x) ≡ b → map.get m j ≡ cond b (no_null (map.get m j)) (map.get m j)) [
      | true ↦ λ e. let is = ap (map.get m) (same_key item_exact j x e) ∙ here in is ∙ sym plain ∙ sym (ap no_null is)
      | false ↦ λ e. refl
    ] refl

get_if : (m : Items) (x : Item) (o : Option Value) → map.get m x ≡ o → (j : Item) → map.get (swept_if m x o) j ≡ cond (is_eq (item_cmp j x)) (no_null (map.get m j)) (map.get m j)
get_if m x None here j = stays m x None here refl j
get_if m x (Some Value.Null) here j =
    get-remove item_total m x j ∙ elim (is_eq (item_cmp j x)) as (λ b. is_eq (item_cmp j x) ≡ b → cond b None (map.get m j) ≡ cond b (no_null (map.get m j)) (map.get m j)) [
      | true ↦ λ e. sym (ap no_null (ap (map.get m) (same_key item_exact j x e) ∙ here))
      | false ↦ λ e. refl
    ] refl
get_if m x (Some (Value.Bool b)) here j = stays m x (Some (Value.Bool b)) here refl j
get_if m x (Some (Value.Int n)) here j = stays m x (Some (Value.Int n)) here refl j
get_if m x (Some (Value.Text s)) here j = stays m x (Some (Value.Text s)) here refl j
get_if m x (Some (Value.List vs)) here j = stays m x (Some (Value.List vs)) here refl j
get_if m x (Some (Value.Rec fs)) here j = stays m x (Some (Value.Rec fs)) here refl j

get_swept : (m : Items) (x j : Item) → map.get (swept m x) j ≡ cond (is_eq (item_cmp j x)) (no_null (map.get m j)) (map.get m j)
get_swept m x j = get_if m x (map.get m x) refl j

put_swept : (m : Items) (x : Item) (v : Value) → swept (map.insert m x v) x ≡ set_item m x v
put_swept m x v = same_map item_total item_exact _ _ (λ j.
    get_swept (map.insert m x v) x j
    ∙ ap (λ o. cond (is_eq (item_cmp j x)) (no_null o) o) (get-insert item_total m x v j)
    ∙ one (is_eq (item_cmp j x)) (map.get m j)
    ∙ sym (get_set m x v j))
  where
    one : (b : Bool) (g : Option Value) → cond b (no_null (cond b (Some v) g)) (cond b (Some v) g) ≡ cond b (some_of v) g
    one true g = set_so v
    one false g = refl

set_swept : (m : Items) (x y : Item) (v : Value) → swept (set_item m x v) y ≡ set_item (swept m y) x v
set_swept m x y v = same_map item_total item_exact _ _ (λ j.
    get_swept (set_item m x v) y j
    ∙ ap (λ o. cond (is_eq (item_cmp j y)) (no_null o) o) (get_set m x v j)
    ∙ two (is_eq (item_cmp j y)) (is_eq (item_cmp j x)) (map.get m j)
    ∙ sym (get_set (swept m y) x v j ∙ ap (cond (is_eq (item_cmp j x)) (some_of v)) (get_swept m y j)))
  where
    two : (a b : Bool) (g : Option Value) → cond a (no_null (cond b (some_of v) g)) (cond b (some_of v) g) ≡ cond b (some_of v) (cond a (no_null g) g)
    two true true g = swept_so v
    two true false g = refl
    two false true g = refl
    two false false g = refl

all_set_swept : (m : Items) (ws : List Was) (x : Item) (v : Value) → all_swept (set_item m x v) ws ≡ set_item (all_swept m ws) x v
all_set_swept m [] x v = refl
all_set_swept m (w ∷ ws) x v = ap (λ n. swept n (item_was w)) (all_set_swept m ws x v) ∙ set_swept (all_swept m ws) x (item_was w) v

pub swept_last : (m : Items) (ws : List Was) (w : Was) → all_swept m (ws ++ w ∷ []) ≡ all_swept (swept m (item_was w)) ws
swept_last m [] w = refl
swept_last m (v ∷ ws) w = ap (λ n. swept n (item_was v)) (swept_last m ws w)

put_seen : (m : Items) (ws : List Was) (x : Item) (o : Option Value) → all_swept (put_in m x o) (kept_in m ws x o) ≡ set_if (all_swept m ws) x o
put_seen m ws x None = refl
put_seen m ws x (Some v) = swept_last (map.insert m x v) ws (was x (map.get m x)) ∙ ap (λ n. all_swept n ws) (put_swept m x v) ∙ all_set_swept m ws x v

-- a value is seen as it is in place
null_either : (b : Bool) (g : Option Value) → or_null (cond b (no_null g) g) ≡ or_null g
null_either true g = null_so g
null_either false g = refl

value_seen : (m : Items) (ws : List Was) (x : Item) → or_null (map.get (all_swept m ws) x) ≡ or_null (map.get m x)
value_seen m [] x = refl
value_seen m (w ∷ ws) x =
    ap or_null (get_swept (all_swept m ws) (item_was w) x) ∙ null_either (is_eq (item_cmp x (item_was w))) (map.get (all_swept m ws) x) ∙ value_seen m ws x

-- an operation in place is one on what is seen ..
pub puts_seen : (m : Items) (ws : List Was) (q : Instance) (o : Option OnItem) → all_swept (puts m q.func o) (keeps m ws q.func o) ≡ items_if (all_swept m ws) q o
puts_seen m ws q None = refl
puts_seen m ws q (Some o) =
    let x = item_in q.func o in
    put_seen m ws x (sets o.does (or_null (map.get m x))) ∙ ap (λ v. set_if (all_swept m ws) x (sets o.does v)) (sym (value_seen m ws x))

answer_so : (m : Items) (ws : List Was) (q : Instance) (o : Option OnItem) → answer_if (all_swept m ws) q o ≡ answer_if m q o
answer_so m ws q None = refl
answer_so m ws q (Some o) = ap (λ v. Some (answer_after o.does v)) (value_seen m ws (item_in q.func o))

-- .. and is answered so
pub answer_seen : (m : Items) (ws : List Was) (q : Instance) (e : Effect) → answer_by (all_swept m ws) q e ≡ answer_by m q e
answer_seen m ws q (Effect.Read t k) = ap (λ v. Some (Answer.Value v)) (value_seen m ws (item_of q t k))
answer_seen m ws q e = answer_so m ws q (op_of e)
