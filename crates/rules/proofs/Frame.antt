-- What no call changes: L, and that no order and no held share stands above class 16.
use mathlib.Core.Path.{◌≡◌, refl, ◌∙◌}
use mathlib.Core.Bool.{Bool, true, false, cond}
use mathlib.Core.List.{List, [], ◌∷◌, ◌++◌}
use Prim.Native.Nat.{ℕ, suc, ◌+◌, ◌*◌, ◌≤◌, max}
use native.Mathlib.Omega.{arith}
use native.Mathlib.Decide.{ℕ_discrete}
use lib.Dec.{leb, ltb}
use lib.ListN.{length, get_or, set, drop}
use Rattle.units.specs.Classes.{next_start}
use Rattle.units.proofs.Classes.{class_le}
use Rattle.rules.specs.Board.{Record, no_record, bytes_charged, Place, block_class, Board, at, Seventeen, fresh}
use Rattle.rules.specs.Choice.{left_after, emptied, short, going, upd, is_none, least_ready, release, settle, ended, go_on, send_from, send, begin, lowest}
use Rattle.rules.specs.Choice.{chosen, where_is, joins, more, joining, taken_in}
use Rattle.rules.specs.Calls.{Single, step}
use Rattle.rules.specs.Runs.{play}
use Rattle.rules.specs.Blocks.{opened, free_at, quiet, closed, renamed}
use Rattle.rules.proofs.Orders.{upd_same, upd_other}
use Rattle.rules.proofs.Cases.{other_cases, serve_turns}

-- from the board b to the board c
record Framed (b c : Board) : Type 0 where
  size : c.largest ≡ b.largest
  high : Seventeen b → Seventeen c

framed_refl : (b : Board) → Framed b b
framed_refl b = record { size = refl; high = λ s. s }

framed_cond : (b : Board) (t : Bool) (c d : Board) → Framed b c → Framed b d → Framed b (cond t c d)
framed_cond b true c d f g = f
framed_cond b false c d f g = g

-- ---- orders: one changes in a class of a share, or it is empty and stays so

upd_as : {A : Type 0} (f : ℕ → A) (j : ℕ) (v : A) (k : ℕ) (d : A) → f k ≡ d → (k ≡ j → v ≡ d) → upd f j v k ≡ d
upd_as f j v k d other same = go (ℕ_discrete k j)
  where
    go : Dec (k ≡ j) → upd f j v k ≡ d
    go (yes e) = rw e (upd_same f j v) ∙ same e
    go (no e) = upd_other f j v k e ∙ other

upd_class : {A : Type 0} (f : ℕ → A) (x : Place) (v : A) (k : ℕ) (d : A) → 17 ≤ k → f k ≡ d → upd f (block_class x) v k ≡ d
upd_class f x v k d h e = upd_as f (block_class x) v k d e (λ same. absurd (omega (arith, class_le x.share)))

first_gone : (o : ℕ → List ℕ) (j k : ℕ) → o k ≡ [] → upd o j (drop 1 (o j)) k ≡ []
first_gone o j k e = upd_as o j (drop 1 (o j)) k [] e (λ same. rw (← same, e))

-- ---- held shares: some go

cond_zero : (t : Bool) (n : ℕ) → n ≡ 0 → cond t 0 n ≡ 0
cond_zero true n e = refl
cond_zero false n e = e

release_zero : (c d : ℕ) (H : ℕ → ℕ) (k : ℕ) → H k ≡ 0 → release c d H k ≡ 0
unfolding release
release_zero c d H k e = cond_zero (leb (next_start k c) d) (H k) e

-- ---- the steps

framed_go_on : (b : Board) (p : ℕ) (x : Place) → Framed b (go_on b p x)
framed_go_on b p x = record { size = refl; high = λ s. record { no_order = s.no_order; no_held = s.no_held } }

framed_ended : (b : Board) (p : ℕ) (x : Place) (o : ℕ → List ℕ) → (Seventeen b → (k : ℕ) → 17 ≤ k → o k ≡ []) → Framed b (ended b p x o)
unfolding ended settle
framed_ended b p x o orders = record {
  size = refl;
  high = λ s. record {
    no_order = orders s;
    no_held =
        λ k h. cond_zero (is_none (least_ready (set b.places p x))) (release b.clock (suc b.clock) b.held k)
        (release_zero b.clock (suc b.clock) b.held k (s.no_held k h));
  };
}

framed_begin : (b : Board) (t : ℕ) → Framed b (begin b t)
unfolding begin
framed_begin b t = record {
  size = refl;
  high = λ s. record {
    no_order = λ k h. first_gone b.orders (lowest b t) k (s.no_order k h);
    no_held = λ k h. release_zero b.clock t b.held k (s.no_held k h);
  };
}

framed_closed : (b : Board) (p : ℕ) → Framed b (closed b p)
unfolding closed
framed_closed b p = record { size = refl; high = λ s. record { no_order = s.no_order; no_held = λ k h. go k h (s.no_held k h) (quiet b) } }
  where
    go : (k : ℕ) → 17 ≤ k → b.held k ≡ 0 → (t : Bool)
        → cond t b.held (upd b.held (block_class (at b p)) (b.held (block_class (at b p)) + (at b p).share)) k ≡ 0
    go k h e true = e
    go k h e false = upd_class b.held (at b p) (b.held (block_class (at b p)) + (at b p).share) k 0 h e

framed_taken : (b : Board) (p : ℕ) (r : Record) → Framed b (taken_in b p r)
unfolding taken_in
framed_taken b p r = framed_cond b (leb (length (at b p).lane) 0) (joining b p x) (go_on b p (more (at b p) r))
    (record {
      size = refl;
      high =
          λ s. record { no_order = λ k h. upd_class b.orders x (b.orders (block_class x) ++ (p ∷ [])) k [] h (s.no_order k h); no_held = s.no_held };
    })
    (framed_go_on b p (more (at b p) r))
  where
    x : Place
    x = joins b.clock (at b p) r

framed_send : (b : Board) (p : ℕ) → Framed b (send_from b p)
unfolding send_from
framed_send b p =
    framed_cond b (leb (length x.lane) 1) _ _ (framed_ended b p (emptied x) b.orders (λ s. s.no_order))
    (framed_cond b (ltb (left_after x) (bytes_charged (get_or (drop 1 x.lane) 0 no_record) * 65536)) _ _
    (framed_ended b p (short b.clock x) (upd b.orders (block_class x) (b.orders (block_class x) ++ (p ∷ [])))
    (λ s k h. upd_class b.orders x (b.orders (block_class x) ++ (p ∷ [])) k [] h (s.no_order k h)))
    (framed_go_on b p (going x)))
  where
    x : Place
    x = at b p

-- ---- every call

framed_step : (b : Board) (x : Single) → Framed b (step b x).next
unfolding send
framed_step b = other_cases b (λ x u. Framed b u.next) (record {
  refused = λ x code r. framed_refl b;
  opens = λ o c. framed_go_on b (free_at b) (opened o);
  renames = λ old new c. framed_go_on b (where_is b old) (renamed new (at b (where_is b old)));
  closes = λ n c. framed_closed b (where_is b n);
  takes = λ n r c. framed_taken b (where_is b n) r;
}) (serve_turns b (λ u. Framed b u.next) (λ code u. framed_refl b) (λ p e. framed_send b p) (λ r m. begun (max b.clock r)))
  where
    begun : (t : ℕ) → Framed b (send true (begin b t) (chosen b t)).next
    begun t = let f = framed_begin b t in let g = framed_send (begin b t) (chosen b t) in record { size = g.size ∙ f.size; high = λ s. g.high (f.high s) }

-- L
pub size_step : (b : Board) (x : Single) → (step b x).next.largest ≡ b.largest
size_step b x = (framed_step b x).size

pub size_play : (b : Board) (xs : List Single) → (play b xs).largest ≡ b.largest
unfolding play
size_play b [] = refl
size_play b (x ∷ xs) = size_play (step b x).next xs ∙ size_step b x

-- the seventeen classes
pub seventeen_fresh : (L : ℕ) → Seventeen (fresh L)
unfolding fresh
seventeen_fresh L = record { no_order = λ k h. refl; no_held = λ k h. refl }

pub seventeen_step : (b : Board) (x : Single) → Seventeen b → Seventeen (step b x).next
seventeen_step b x s = (framed_step b x).high s

pub seventeen_play : (b : Board) (xs : List Single) → Seventeen b → Seventeen (play b xs)
unfolding play
seventeen_play b [] s = s
seventeen_play b (x ∷ xs) s = seventeen_play (step b x).next xs (seventeen_step b x s)
