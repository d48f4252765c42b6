-- A rollback turn by turn, as a loop over the vertices does it. Assumes nothing.
use mathlib.Core.Path.{◌≡◌, refl, ap, sym, ◌∙◌}
use mathlib.Core.Bool.{Bool, true, false, cond}
use mathlib.Core.List.{List, [], ◌∷◌, ◌++◌, map, append-nil, append_assoc}
use Prim.Native.Nat.{ℕ, zero, suc, ◌<◌, ◌≤◌}
use native.Mathlib.Omega.{arith}
use lib.Dec.{eqb}
use lib.ListN.{length, get_or, set, take, drop, length-set, length-append, length-map, get_or-append}
use lib.Seq.{get_or_at, set_at, set-append_left, take-suc, drop-cons, length-take-le, take-length, drop-length}
use Rattle.stages.specs.Boxes.{Box}
use Rattle.stages.specs.Vertices.{Vertex, apart, keys, nobody}
use Rattle.stages.specs.Meshes.{table_of}
use Rattle.stages.specs.Rounds.{owners, retire, retired, rollback, rolled}
use Rattle.stages.specs.Stages.{Stage}
use Rattle.stages.specs.Inner.Steps.{number, roll_to, roll_turn}
use Rattle.stages.proofs.Stages.{apart-keys, keys_of}
use Rattle.stages.proofs.Lookup.{times}
use Rattle.stages.proofs.Table.{retire-times, table_roll}
use Rattle.stages.proofs.Order.{rollback-number}
use Rattle.laws.specs.Ranges.{fold}
use Rattle.laws.specs.Lists.{joined, keep}
use Rattle.laws.specs.Couples.{left}
use Rattle.laws.proofs.Lists.{joined-append, keep_append, map-append, total-append}

module _ (r : ℕ) (os : List ℕ) where
  -- the vertices after m turns
  unfoldable pub so_far : ℕ → List Vertex → List Vertex
  so_far m vs = (map (retire os) (take m vs) ++ drop m vs) ++ joined (map (apart r) (keep (rolled os) (take m vs)))

  module _ (a d g : List Vertex) (x : Vertex) (m : ℕ) (e : length a ≡ m) where
    long : m < length (a ++ x ∷ d)
    long = omega (arith, length-append a (x ∷ d))

    at_turn : get_or ((a ++ x ∷ d) ++ g) m nobody ≡ x
    at_turn = get_or-append (a ++ x ∷ d) g nobody m long ∙ get_or_at a x d nobody m e

    set-turn : (y : Vertex) → set ((a ++ x ∷ d) ++ g) m y ≡ (a ++ y ∷ d) ++ g
    set-turn y = set-append_left (a ++ x ∷ d) g m y long ∙ ap (λ (l : List Vertex). l ++ g) (set_at a x d y m e)

    turn_is : roll_turn r os m ((a ++ x ∷ d) ++ g) ≡ (a ++ retire os x ∷ d) ++ (g ++ cond (rolled os x) (apart r x) [])
    unfolding roll_turn retire
    turn_is =
        ap (λ (y : Vertex). cond (rolled os y) (set ((a ++ x ∷ d) ++ g) m (retired y) ++ apart r y) ((a ++ x ∷ d) ++ g)) at_turn ∙ go (rolled os x)
      where
        go : (c : Bool) → cond c (set ((a ++ x ∷ d) ++ g) m (retired x) ++ apart r x) ((a ++ x ∷ d) ++ g)
            ≡ (a ++ cond c (retired x) x ∷ d) ++ (g ++ cond c (apart r x) [])
        go true = ap (λ (l : List Vertex). l ++ apart r x) (set-turn (retired x)) ∙ append_assoc (a ++ retired x ∷ d) g (apart r x)
        go false = ap (λ (l : List Vertex). (a ++ x ∷ d) ++ l) (sym (append-nil g))

  one_apart : (x : Vertex) → joined (map (apart r) (keep (rolled os) (x ∷ []))) ≡ cond (rolled os x) (apart r x) []
  unfolding joined keep
  one_apart x = go (rolled os x)
    where
      go : (c : Bool) → joined (map (apart r) (cond c (x ∷ []) [])) ≡ cond c (apart r x) []
      go true = append-nil (apart r x)
      go false = refl

  next : (m : ℕ) (vs : List Vertex) → m < length vs → roll_turn r os m (so_far m vs) ≡ so_far (suc m) vs
  unfolding so_far
  next m vs h =
      let x = get_or vs m nobody in
      let a = map (retire os) (take m vs) in
      let g = joined (map (apart r) (keep (rolled os) (take m vs))) in
      let e : length a ≡ m = length-map (take m vs) (retire os) ∙ length-take-le m vs (omega arith) in
      let t : take (suc m) vs ≡ take m vs ++ (x ∷ []) = take-suc vs m nobody h in
      let left : map (retire os) (take (suc m) vs) ++ drop (suc m) vs ≡ a ++ retire os x ∷ drop (suc m) vs =
      ap (λ (l : List Vertex). map (retire os) l ++ drop (suc m) vs) t
      ∙ ap (λ (l : List Vertex). l ++ drop (suc m) vs) (map-append (retire os) (take m vs) (x ∷ []))
      ∙ append_assoc a (retire os x ∷ []) (drop (suc m) vs) in
      let right : joined (map (apart r) (keep (rolled os) (take (suc m) vs))) ≡ g ++ cond (rolled os x) (apart r x) [] =
      ap (λ (l : List Vertex). joined (map (apart r) (keep (rolled os) l))) t
      ∙ ap (λ (l : List Vertex). joined (map (apart r) l)) (keep_append (rolled os) (take m vs) (x ∷ []))
      ∙ joined-append (apart r) (keep (rolled os) (take m vs)) (keep (rolled os) (x ∷ []))
      ∙ ap (λ (l : List Vertex). g ++ l) (one_apart x) in
      ap (λ (l : List Vertex). roll_turn r os m ((a ++ l) ++ g)) (drop-cons vs m nobody h)
      ∙ turn_is a (drop (suc m) vs) g x m e
      ∙ (λ i. sym left i ++ sym right i)

  pub turns : (m : ℕ) (vs : List Vertex) → m ≤ length vs → roll_to r os m vs ≡ so_far m vs
  unfolding roll_to fold so_far joined keep
  turns zero vs h = sym (append-nil vs)
  turns (suc m) vs h = ap (roll_turn r os m) (turns m vs (omega arith)) ∙ next m vs (omega arith)

-- THE LOOP OVER THE VERTICES IS THE ROLLBACK
pub rollback_turns : (b : Box) (r : ℕ) {vs : List Vertex} → Stage b vs → roll_to r (owners b vs) (length vs) vs ≡ rollback r (owners b vs) vs
unfolding so_far
rollback_turns b r {vs} st =
    turns r (owners b vs) (length vs) vs (omega arith)
    ∙ (λ i. (map (retire (owners b vs)) (take-length vs i) ++ drop-length vs i) ++ joined (map (apart r) (keep (rolled (owners b vs)) (take-length vs i))))
    ∙ ap (λ (l : List Vertex). l ++ joined (map (apart r) (keep (rolled (owners b vs)) vs))) (append-nil (map (retire (owners b vs)) vs))
    ∙ sym (rollback-number b r st)

-- ---- the table and the book along the turns

-- a turn makes no fewer vertices
pub turn_longer : (r : ℕ) (os : List ℕ) (i : ℕ) (ws : List Vertex) → length ws ≤ length (roll_turn r os i ws)
unfolding roll_turn
turn_longer r os i ws = go (rolled os (get_or ws i nobody))
  where
    go : (c : Bool) → length ws ≤ length (cond c (set ws i (retired (get_or ws i nobody)) ++ apart r (get_or ws i nobody)) ws)
    go true = omega (arith, length-append (set ws i (retired (get_or ws i nobody))) (apart r (get_or ws i nobody)), length-set ws i (retired (get_or ws i nobody)))
    go false = omega arith

module _ (b : Box) (r : ℕ) (os : List ℕ) where
  turn-times : (k i : ℕ) (ws : List Vertex) → i < length ws → times b k (roll_turn r os i ws) ≡ times b k ws
  unfolding roll_turn
  turn-times k i ws h = go (rolled os (get_or ws i nobody))
    where
      go : (c : Bool) → times b k (cond c (set ws i (retired (get_or ws i nobody)) ++ apart r (get_or ws i nobody)) ws) ≡ times b k ws
      go true =
          omega (
            arith,
            total-append (keys_of b (eqb k)) (set ws i (retired (get_or ws i nobody))) (apart r (get_or ws i nobody)),
            retire-times b k ws i h,
            apart-keys b (eqb k) r (get_or ws i nobody),
          )
      go false = refl

  pub to_longer : (m : ℕ) (ws : List Vertex) → length ws ≤ length (roll_to r os m ws)
  unfolding roll_to fold
  to_longer zero ws = omega arith
  to_longer (suc m) ws = omega (arith, to_longer m ws, turn_longer r os m (roll_to r os m ws))

  pub to-times : (k m : ℕ) (ws : List Vertex) → m ≤ length ws → times b k (roll_to r os m ws) ≡ times b k ws
  unfolding roll_to fold
  to-times k zero ws h = refl
  to-times k (suc m) ws h = turn-times k m (roll_to r os m ws) (omega (arith, to_longer m ws)) ∙ to-times k m ws (omega arith)

  -- what one turn does to the table
  pub turn-table : (i : ℕ) (ws : List Vertex) → i < length ws → ((k : ℕ) → times b k ws ≤ 1)
      → table_of b (roll_turn r os i ws)
      ≡ cond (rolled os (get_or ws i nobody)) (number (length ws) (keys b (get_or ws i nobody)) (table_of b ws)) (table_of b ws)
  unfolding roll_turn
  turn-table i ws h o = go (rolled os (get_or ws i nobody))
    where
      go : (c : Bool) → table_of b (cond c (set ws i (retired (get_or ws i nobody)) ++ apart r (get_or ws i nobody)) ws)
          ≡ cond c (number (length ws) (keys b (get_or ws i nobody)) (table_of b ws)) (table_of b ws)
      go true = table_roll b r ws i h o
      go false = refl
