-- Renaming, opening and closing a place: the engine's steps are the rules' steps, on what is written for a board.
use mathlib.Core.Path.{◌≡◌, refl, sym, ap, ◌∙◌}
use mathlib.Core.Bool.{Bool, true, false, cond, not, ◌&&◌, ◌||◌, true≢false, false≢true}
use mathlib.Core.List.{List, [], ◌∷◌, map}
use Prim.Native.Nat.{ℕ, suc, ◌+◌, ◌<◌}
use native.Mathlib.Omega.{arith}
use native.Mathlib.Decide.{ℕ_discrete}
use lib.Dec.{eqb, ltb}
use lib.ListN.{length, get_or, set, get_or-map}
use lib.Seq.{get_or-set_other, set-get_or}
use borrow.Author.Tests.{eq-eqb, ne_eqb}
use Rattle.base.specs.Sums.{one_if}
use Rattle.base.proofs.Numbers.{eqb_yes}
use Rattle.bits.specs.Sets.{bit_at, set_below}
use Rattle.bits.proofs.Bits.{bit_high}
use Rattle.bits.proofs.Sets.{set_ext, set_is, set_bit}
use Rattle.units.specs.Classes.{class_of}
use Rattle.units.proofs.Classes.{class_le}
use Rattle.rules.specs.Board
use Rattle.rules.specs.Board.{out, Place, free_place, at, block_class, waits, some_wait, any_waits, due_by}
use Rattle.rules.specs.Choice.{upd, go_on}
use Rattle.operands.specs.declared.Opening.{Opening}
use Rattle.rules.specs.Blocks.{meant, opened, renamed, quiet, closed}
use Rattle.rules.specs.Spoilt.{is_queued, is_serving, ready_num, count}
use Rattle.rules.proofs.Orders.{pl, map_set, upd_same, upd_other}
use Rattle.rules.proofs.Shape.{listed_out}
use Rattle.rules.proofs.Turns.{lit}
use Rattle.rules.proofs.Calls.{set_field}
use Rattle.rules.proofs.Waiting.{some_quiet}
use Rattle.rules.proofs.Tidy.{Tidy}
use Rattle.board.specs.Memory.{blocks_now, blocks_of, with_blocks}
use Rattle.board.specs.Reading.{tab, behind, encode}
use Rattle.board.proofs.Lists.{get_d_tab, tab_ext, tab_set, behind_none}
use Rattle.board.proofs.Moves.{due_ext, due_away, active_here, active_set, left_away, left_same}
use Rattle.board.proofs.Same.{same, kept}
use Rattle.blocks.specs.Blocks.{open_at, held_with, close_at}

held_of : (m : Board.Board) → (encode m).held ≡ tab 17 m.held
unfolding encode
held_of m = refl

held_eq : (active s : ℕ) (held : List ℕ) (t : Bool) → eqb active 0 ≡ t
    → held_with active s held ≡ cond t held (set held (class_of s) (get_or held (class_of s) 0 + s))
unfolding held_with
held_eq active s held t e = rw e

module _ (m : Board.Board) (g : Tidy m) (p : ℕ) (in_l : p < length m.places) where
  abbrev l : List Place
  l = m.places

  -- RENAME
  pub rename_is : (n : ℕ) → with_blocks (encode m) (blocks_now (set (encode m).numbers p n) (encode m).shares (encode m).starts (encode m).held)
      ≡ encode (go_on m p (renamed n (at m p)))
  unfolding encode
  rename_is n = same (record {
    numbers = sym (map_set (λ (w : Place). w.number) l p y);
    shares = kept (λ w. w.share) l p y refl;
    deficits = kept (λ w. w.deficit) l p y refl;
    starts = kept (λ w. w.start) l p y refl;
    counts = kept (λ w. length w.lane) l p y refl;
    ready = kept (λ w. ready_num w.stand) l p y refl;
    next = tab_ext 64 _ _ (λ j h. ap (λ (s : ℕ). behind j (m.orders (class_of s))) (sym (set_field (λ (w : Place). w.share) l p y in_l refl j)));
    heads = refl;
    tails = refl;
    held = refl;
    largest = refl;
    clock = refl;
    active = set_ext _ _ 17 (λ j h. sym (active_set j p l y refl));
    pending =
        set_ext _ _ 17 (λ j h.
        sym (due_ext l (set l p y) m.clock (m.orders j) (λ q c. ap (due_by m.clock) (set_field (λ (w : Place). w.stand) l p y in_l refl q))));
    slot = refl;
    left = sym (left_same l p y m.slot in_l refl);
  })
    where
      y : Place
      y = renamed n (at m p)

  -- a change at a place whose lane is empty, before and after
  module _ (was : (at m p).stand ≡ out) (none! : length (at m p).lane ≡ 0) (owed : (at m p).deficit ≡ 0) where
    gone : (j : ℕ) → count p (m.orders j) ≡ 0
    gone j = listed_out m.places m.orders g.shape.listed j p (ap is_queued was)

    idle_is : (n s st : ℕ) (H : ℕ → ℕ) (held' : List ℕ) → held' ≡ tab 17 H
        → with_blocks (encode m) (blocks_now (set (encode m).numbers p n) (set (encode m).shares p s) (set (encode m).starts p st) held')
        ≡ encode (lit m.largest m.clock (set m.places p (record { number = n; share = s; start = st; lane = []; deficit = 0; stand = out }))
        m.orders m.slot H)
    unfolding encode
    idle_is n s st H held' e = same (record {
      numbers = sym (map_set (λ (w : Place). w.number) l p y);
      shares = sym (map_set (λ (w : Place). w.share) l p y);
      deficits = kept (λ w. w.deficit) l p y (sym owed);
      starts = sym (map_set (λ (w : Place). w.start) l p y);
      counts = kept (λ w. length w.lane) l p y (sym none!);
      ready = kept (λ w. ready_num w.stand) l p y (sym (ap ready_num was));
      next = tab_ext 64 _ _ (λ j h. link j (ℕ_discrete j p));
      heads = refl;
      tails = refl;
      held = e;
      largest = refl;
      clock = refl;
      active = set_ext _ _ 17 (λ j h. sym (active_set j p l y (sym (ap (λ (c : ℕ). ltb 0 c && eqb j (block_class (at m p))) none!))));
      pending = set_ext _ _ 17 (λ j h. sym (due_away l m.clock p y (m.orders j) (gone j)));
      slot = refl;
      left = sym (left_away l p y m.slot (sym (g.one p) ∙ ap is_serving was));
    })
      where
        y : Place
        y = record { number = n; share = s; start = st; lane = []; deficit = 0; stand = out }

        link : (j : ℕ) → Dec (j ≡ p) → behind j (m.orders (block_class (at m j))) ≡ behind j (m.orders (block_class (pl (set l p y) j)))
        link j (yes q) =
            rw q (behind_none p (m.orders (block_class (at m p))) (gone (block_class (at m p)))
            ∙ sym (behind_none p (m.orders (block_class (pl (set l p y) p))) (gone (block_class (pl (set l p y) p)))))
        link j (no q) = ap (λ (w : Place). behind j (m.orders (block_class w))) (sym (get_or-set_other l p j y free_place q))

    -- a field that is 0 already, set to 0
    zero_kept : (f : Place → ℕ) → f free_place ≡ 0 → f (at m p) ≡ 0 → set (map f l) p 0 ≡ map f l
    zero_kept f e z = ap (set (map f l) p) (sym (ap (get_or (map f l) p) (sym e) ∙ get_or-map f l p free_place ∙ z)) ∙ set-get_or (map f l) p 0

    start_kept : (at m p).start ≡ 0 → set (encode m).starts p 0 ≡ (encode m).starts
    unfolding encode
    start_kept = zero_kept (λ w. w.start) refl

    -- OPEN
    pub open_is : (o : Opening) → (at m p).start ≡ 0
        → with_blocks (encode m) (open_at p o (blocks_of (encode m))) ≡ encode (go_on m p (opened (meant o)))
    open_is o z =
        ap (λ (st : List ℕ). let x = open_at p o (blocks_of (encode m)) in with_blocks (encode m) (blocks_now x.numbers x.shares st x.held))
        (sym (start_kept z))
        ∙ idle_is o.number o.share 0 m.held (encode m).held (held_of m)

    -- CLOSE: the share is held, unless nobody waits
    abbrev H : Bool → ℕ → ℕ
    H t = cond t m.held (upd m.held (block_class (at m p)) (m.held (block_class (at m p)) + (at m p).share))

    held_close : (t : Bool)
        → cond t (encode m).held (set (encode m).held (block_class (at m p)) (get_or (encode m).held (block_class (at m p)) 0 + (at m p).share)) ≡ tab 17 (H t)
    unfolding encode
    held_close true = refl
    held_close false =
        ap (λ (h : ℕ). set (tab 17 m.held) (block_class (at m p)) (h + (at m p).share)) (get_d_tab 17 m.held (block_class (at m p)) 0 k17)
        ∙ tab_set 17 m.held (upd m.held (block_class (at m p)) (m.held (block_class (at m p)) + (at m p).share)) (block_class (at m p))
        (m.held (block_class (at m p)) + (at m p).share) k17 (upd_same m.held (block_class (at m p)) (m.held (block_class (at m p)) + (at m p).share))
        (λ j h ne. upd_other m.held (block_class (at m p)) (m.held (block_class (at m p)) + (at m p).share) j ne)
      where
        k17 : block_class (at m p) < 17
        k17 = omega (arith, class_le (at m p).share)

    pub close_is : eqb (encode m).active 0 ≡ quiet m
        → with_blocks (encode m) (close_at (encode m).active (at m p).share p (blocks_of (encode m))) ≡ encode (closed m p)
    unfolding closed
    close_is q = idle_is 0 0 0 (H (quiet m)) _ (held_eq (encode m).active (at m p).share (encode m).held (quiet m) q ∙ held_close (quiet m))

-- ---- No class is active exactly when no block waits

some_at : (l : List Place) → some_wait l ≡ true → (p : ℕ) × (p < length l) × (waits (pl l p) ≡ true)
unfolding some_wait
some_at [] e = absurd (false≢true e)
some_at (x ∷ xs) e = go (waits x) refl e (some_at xs)
  where
    go : (t : Bool) → waits x ≡ t → t || some_wait xs ≡ true → (some_wait xs ≡ true → (p : ℕ) × (p < length xs) × (waits (pl xs p) ≡ true))
        → (p : ℕ) × (p < length (x ∷ xs)) × (waits (pl (x ∷ xs) p) ≡ true)
    go true f q rest = (0, omega arith, f)
    go false f q rest = let r = rest q in (suc r.0, omega (arith, r.1), r.2)

none_active : (k : ℕ) (l : List Place) → some_wait l ≡ false → any_waits k l ≡ false
unfolding some_wait any_waits
none_active k [] e = refl
none_active k (x ∷ xs) e = go (waits x) refl e (none_active k xs)
  where
    go : (t : Bool) → waits x ≡ t → t || some_wait xs ≡ false → (some_wait xs ≡ false → any_waits k xs ≡ false)
        → (t && eqb k (block_class x)) || any_waits k xs ≡ false
    go true f q rest = absurd (true≢false q)
    go false f q rest = rest q

pub quiet_active : (m : Board.Board) → Tidy m → eqb (encode m).active 0 ≡ quiet m
unfolding encode
quiet_active m g = go (quiet m) (some_quiet m g)
  where
    on : ℕ → Bool
    on k = any_waits k m.places

    go : (t : Bool) → some_wait m.places ≡ not t → eqb (set_below 17 on) 0 ≡ t
    go true e =
        eq-eqb (set_below 17 on) 0
        (sym (set_is on 17 0 (omega arith) (λ k h. bit_high 0 0 k (omega arith) (omega arith) ∙ ap one_if (sym (none_active k m.places e)))))
    go false e = let w = some_at m.places e in is_on w.0 w.1 w.2
      where
        is_on : (p : ℕ) → p < length m.places → waits (at m p) ≡ true → eqb (set_below 17 on) 0 ≡ false
        is_on p h w = ne_eqb (set_below 17 on) 0 (λ z. omega (arith, bit z))
          where
            k : ℕ
            k = block_class (at m p)

            busy : any_waits (block_class (at m p)) m.places ≡ true
            busy = active_here (block_class (at m p)) p m.places h (rw w (eqb_yes (block_class (at m p)) (block_class (at m p)) refl))

            bit : set_below 17 on ≡ 0 → ◌≡◌ {A = ℕ} 0 1
            bit z =
                sym (bit_high 0 0 k (omega arith) (omega arith)) ∙ ap (λ (s : ℕ). bit_at s k) (sym z) ∙ set_bit on 17 k (omega (arith, class_le (at m p).share))
                ∙ ap one_if busy
