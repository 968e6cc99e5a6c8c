-- The other calls keep the invariant.
use mathlib.Core.Path.{◌≡◌, refl, sym, ap, ap₂, ◌∙◌}
use mathlib.Core.Bool.{Bool, true, false, cond, true≢false, false≢true}
use mathlib.Core.Logic.{◌⊎◌, inl, inr, ◌≢◌}
use mathlib.Core.Option.{Option, none, some}
use mathlib.Core.List.{List, [], ◌∷◌, ◌++◌}
use Prim.Native.Nat.{ℕ, ◌+◌, ◌*◌, ◌-◌, ◌≤◌, ◌<◌}
use native.Mathlib.Omega.{arith}
use native.Mathlib.Nat.{le_of_eq}
use native.Mathlib.Decide.{ℕ_discrete}
use lib.Dec.{leb}
use lib.ListN.{length, set, length-append, get_or-append}
use lib.Seq.{get_or-set_same, get_or-set_other}
use Rattle.base.proofs.Numbers.{true_le, false_lt, eqb_yes}
use Rattle.base.specs.Tests.{least}
use Rattle.base.proofs.Tests.{and_right}
use Rattle.units.specs.Classes.{next_start, class_of}
use Rattle.rules.specs.Spoilt.{is_queued, is_serving, ready_num, is_at}
use Rattle.lanes.proofs.Lanes.{depth_positive}
use Rattle.rules.specs.Board.{Record, no_record, Stand, out, queued, serving, Place, free_place, block_class, Board, at, NoneHas, used_share}
use Rattle.rules.specs.Choice.{upd, done, least_ready, is_none, go_on, more, joins, joining, taken_in, took_at, Taken, taken}
use Rattle.rules.specs.Blocks.{Opening, opened, free_at, quiet, closed, renamed}
use Rattle.rules.proofs.Potential.{ahead_join}
use Rattle.rules.proofs.Orders.{pl, ready}
use Rattle.rules.proofs.Shape.{Shape, Distinct, names_kept, names_set, named_num, PlaceOk, StandOk, All, all_snoc, LeastIs, least_is, InSize, most_pos}
use Rattle.rules.proofs.Good.{seat_of, Fine, fine_same, fine_join, fine_open, fine_close, fine_close_quiet}
use Rattle.rules.proofs.Slot.{serving_ok}
use Rattle.rules.proofs.Turns.{Good, busy, in_line, slot_bytes_left, most, phi, phi_queued, most_ahead, Keeps, lit, WaitsOn, goes_same, hand_by, hand, Bars}
use Rattle.rules.proofs.Turns.{bars_same}
use Rattle.rules.proofs.Turns.{bar_by, bar_of, due_time}
use Rattle.rules.proofs.Cases.{CanOpen, CanRename, CanClose, CanTake, has_at}

-- a stand and a share decide what is ahead
seat_same : (x y : Place) → x.share ≡ y.share → x.stand ≡ y.stand → seat_of x ≡ seat_of y
seat_same x y e f = λ i. record { share = e i; ord = is_queued (f i); ready = ready_num (f i) }

pub slot_bytes_left_same : (l l' : List Place) (s : Option ℕ) → ((q : ℕ) → (pl l' q).stand ≡ (pl l q).stand) → slot_bytes_left l' s ≡ slot_bytes_left l s
unfolding slot_bytes_left
slot_bytes_left_same l l' none e = refl
slot_bytes_left_same l l' (some q) e = rw (e q)

-- calls that leave the clock, the slot and every stand as they were
pub keeps_quiet : (L c : ℕ) (l : List Place) (o : ℕ → List ℕ) (s : Option ℕ) (H : ℕ → ℕ) (l' : List Place) (o' : ℕ → List ℕ) (H' : ℕ → ℕ)
    → ((q : ℕ) → (pl l' q).stand ≡ (pl l q).stand)
    → ((q : ℕ) → in_line (pl l q).stand ≡ true → ((pl l' q).share ≡ (pl l q).share) × ((pl l' q).deficit ≡ (pl l q).deficit))
    → Good (lit L c l' o' s H') → Keeps (lit L c l o s H) (record { out = done; next = lit L c l' o' s H' })
unfolding phi
keeps_quiet L c l o s H l' o' H' stands both g = record { good = g; stays = stays; some! = λ e. absurd (false≢true e); goes = goes; bars = bars; comes = comes }
  where
    b : Board
    b = lit L c l o s H

    nb : Board
    nb = lit L c l' o' s H'

    bars : (q : ℕ) → (pl l' q).share ≡ (pl l q).share → Bars b (record { out = done; next = nb }) q
    bars q e = bars_same b (record { out = done; next = nb }) q refl (le_of_eq (sym (ap₂ (bar_by c) e (stands q))))

    shares : (q : ℕ) → in_line (pl l q).stand ≡ true → (pl l' q).share ≡ (pl l q).share
    shares q w = (both q w).0

    goes : (q : ℕ) → in_line (pl l q).stand ≡ true → in_line (pl l' q).stand ≡ true → WaitsOn b (record { out = done; next = nb }) q
    goes q w v =
        goes_same b (record { out = done; next = nb }) q refl (shares q w) (ap₂ (due_time c) (shares q w) (stands q)) (ap₂ hand_by (both q w).1 (stands q))

    same : (q : ℕ) → in_line (pl l q).stand ≡ true → phi nb q ≡ phi b q
    same q w = rw (slot_bytes_left_same l l' s stands, seat_same (pl l' q) (pl l q) (shares q w) (stands q), stands q)

    stays : (q : ℕ) → in_line (pl l q).stand ≡ true → false ≡ false
        → (in_line (pl l' q).stand ≡ true) × ((pl l' q).share ≡ (pl l q).share) × (phi nb q + 0 ≤ phi b q)
    stays q w _ = (rw (stands q) w, shares q w, omega (arith, same q w))

    comes : (q : ℕ) → in_line (pl l' q).stand ≡ true → (in_line (pl l q).stand ≡ false) ⊎ (false ≡ true) → phi nb q ≤ most_ahead L (block_class (pl l' q))
    comes q w (inl e) = absurd (true≢false (sym (rw (stands q) at w) ∙ e))
    comes q w (inr e) = absurd (false≢true e)

-- a place with an empty lane, or without a share, is out
pub lane_out : (L share : ℕ) (lane : List Record) (s : Stand) → length lane ≤ 0 → StandOk L share lane s → s ≡ out
unfolding StandOk
lane_out L share lane out h k = refl
lane_out L share lane (queued r) h k = absurd (omega (arith, k.0))
lane_out L share lane (serving n) h k = absurd (omega (arith, k.0))

pub share_out : (L share : ℕ) (lane : List Record) (s : Stand) → share ≡ 0 → StandOk L share lane s → s ≡ out
unfolding StandOk
share_out L share lane out h k = refl
share_out L share lane (queued r) h k = absurd (omega (arith, k.1))
share_out L share lane (serving n) h k = absurd (omega (arith, k.1))

-- a slot's rest
left_most : (L c : ℕ) (l : List Place) (o : ℕ → List ℕ) (s : Option ℕ) (H : ℕ → ℕ) → Good (lit L c l o s H) → slot_bytes_left l s ≤ busy s * most L
unfolding slot_bytes_left most
left_most L c l o none H g = omega arith
left_most L c l o (some p) H g =
    omega (arith, (serving_ok L (pl l p).share (pl l p).lane (pl l p).stand (g.one p ∙ eqb_yes p p refl) (g.fine.shape.place_ok p).stand_ok).3)

pub left_other : (l : List Place) (p : ℕ) (x : Place) (t : Option ℕ) → (pl l p).stand ≡ out → ((q : ℕ) → is_serving (pl l q).stand ≡ is_at q t)
    → slot_bytes_left (set l p x) t ≡ slot_bytes_left l t
unfolding slot_bytes_left
left_other l p x none was e = refl
left_other l p x (some q) was e = rw (get_or-set_other l p q x free_place ne)
  where
    ne : q ≢ p
    ne f = false≢true (sym (ap is_serving was) ∙ e p ∙ eqb_yes p q (sym f))

pub busy_le : (s : Option ℕ) → busy s ≤ 1
busy_le none = omega arith
busy_le (some p) = omega arith

phi_same : (L c : ℕ) (l l' : List Place) (o o' : ℕ → List ℕ) (s : Option ℕ) (H H' : ℕ → ℕ) (q : ℕ) → pl l' q ≡ pl l q
    → slot_bytes_left l' s ≡ slot_bytes_left l s
    → phi (lit L c l' o' s H') q ≡ phi (lit L c l o s H) q
unfolding phi
phi_same L c l l' o o' s H H' q e f = rw (e, f)

-- a block joins its order
pub keeps_join : (L c : ℕ) (l : List Place) (o : ℕ → List ℕ) (s : Option ℕ) (H : ℕ → ℕ) (o' : ℕ → List ℕ) (p : ℕ) (x : Place)
    → p < length l → (pl l p).stand ≡ out → x.stand ≡ queued (next_start (block_class x) c)
    → Good (lit L c l o s H) → Good (lit L c (set l p x) o' s H) → Keeps (lit L c l o s H) (record { out = done; next = lit L c (set l p x) o' s H })
keeps_join L c l o s H o' p x h was is g0 g = record { good = g; stays = stays; some! = λ e. absurd (false≢true e); goes = goes; bars = bars; comes = comes }
  where
    b : Board
    b = lit L c l o s H

    nb : Board
    nb = lit L c (set l p x) o' s H

    bars : (q : ℕ) → (pl (set l p x) q).share ≡ (pl l q).share → Bars b (record { out = done; next = nb }) q
    bars q e = bars_same b (record { out = done; next = nb }) q refl (go (ℕ_discrete q p))
      where
        go : Dec (q ≡ p) → bar_of b q ≤ bar_of nb q
        go (yes f) =
            le_of_eq (rw f (ap (bar_by c (pl l p).share) was
            ∙ sym (ap (λ (z : Place). bar_by c z.share z.stand) (get_or-set_same l p x free_place h) ∙ ap (bar_by c x.share) is
            ∙ ap (λ (n : ℕ). next_start (class_of n) c) (sym (ap (λ (z : Place). z.share) (get_or-set_same l p x free_place h)) ∙ rw f at e))))
        go (no f) = le_of_eq (sym (ap (λ (z : Place). bar_by c z.share z.stand) (get_or-set_other l p q x free_place f)))

    goes : (q : ℕ) → in_line (pl l q).stand ≡ true → in_line (pl (set l p x) q).stand ≡ true → WaitsOn b (record { out = done; next = nb }) q
    goes q w v =
        goes_same b (record { out = done; next = nb }) q refl (ap (λ (z : Place). z.share) same) (ap (λ (z : Place). due_time c z.share z.stand) same)
        (ap hand same)
      where
        same : pl (set l p x) q ≡ pl l q
        same = get_or-set_other l p q x free_place (λ e. false≢true (sym (ap in_line was) ∙ rw e at w))

    stays : (q : ℕ) → in_line (pl l q).stand ≡ true → false ≡ false
        → (in_line (pl (set l p x) q).stand ≡ true) × ((pl (set l p x) q).share ≡ (pl l q).share) × (phi nb q + 0 ≤ phi b q)
    stays q w _ = rw (get_or-set_other l p q x free_place ne) (w, refl, less)
      where
        ne : q ≢ p
        ne e = false≢true (sym (ap in_line was) ∙ rw e at w)

        less : phi nb q + 0 ≤ phi b q
        less = omega (arith, phi_same L c l (set l p x) o o' s H H q (get_or-set_other l p q x free_place ne) (left_other l p x s was g0.one))

    new : phi nb p ≤ most_ahead L (block_class (pl (set l p x) p))
    new = rw (phi_queued nb p (rw (get_or-set_same l p x free_place h) (ap is_queued is)), get_or-set_same l p x free_place h)
        (ahead_join (most L) (slot_bytes_left (set l p x) s) c (busy s) (seat_of x) (ap ready_num is) (busy_le s) (left_most L c (set l p x) o' s H g))

    comes : (q : ℕ) → in_line (pl (set l p x) q).stand ≡ true → (in_line (pl l q).stand ≡ false) ⊎ (false ≡ true)
        → phi nb q ≤ most_ahead L (block_class (pl (set l p x) q))
    comes q w (inr e) = absurd (false≢true e)
    comes q w (inl e) = go (ℕ_discrete q p)
      where
        go : Dec (q ≡ p) → phi nb q ≤ most_ahead L (block_class (pl (set l p x) q))
        go (yes f) = rw f new
        go (no f) = absurd (true≢false (sym (rw (get_or-set_other l p q x free_place f) at w) ∙ e))

-- A RECORD COMES
stand_more : (L share : ℕ) (lane : List Record) (x : Record) (s : Stand) → 1 ≤ length lane → StandOk L share lane s → StandOk L share (lane ++ (x ∷ [])) s
unfolding StandOk
stand_more L share lane x out h k = absurd (omega arith)
stand_more L share lane x (queued r) h k = (rw (length-append lane (x ∷ [])) (omega arith), k.1)
stand_more L share lane x (serving n) h k =
    (rw (length-append lane (x ∷ [])) (omega arith), k.1, rw (get_or-append lane (x ∷ []) no_record 0 h) k.2, k.3)

-- what a change at p leaves as it was
pub set_field : {A : Type 0} (f : Place → A) (l : List Place) (p : ℕ) (x : Place) → p < length l → f x ≡ f (pl l p) → (q : ℕ)
    → f (pl (set l p x) q) ≡ f (pl l q)
set_field f l p x h e q = go (ℕ_discrete q p)
  where
    go : Dec (q ≡ p) → f (pl (set l p x) q) ≡ f (pl l q)
    go (yes w) = rw (w, get_or-set_same l p x free_place h) e
    go (no w) = rw (get_or-set_other l p q x free_place w)

-- ---- What a done call finds and leaves at its place

module _ (b : Board) (sh : Shape b.largest b.clock b.places b.orders b.held) where
  abbrev L : ℕ
  L = b.largest

  pub in_places : (p : ℕ) → p < 64 → p < length b.places
  in_places p h = omega (arith, sh.all64)

  -- no other open block has the number that the place has now
  pub names_new : (p : ℕ) (x : Place) → p < 64 → NoneHas b x.number → Distinct (set b.places p x)
  names_new p x h nobody = names_set b.places p x (in_places p h) (λ q ne a _ f. nobody q (has_at b q x.number sh.all64 a f)) sh.names

  pub free_out : (o : Opening) → CanOpen b o → (at b (free_at b)).stand ≡ out
  free_out o can = let x = at b (free_at b) in share_out L x.share x.lane x.stand can.free (sh.place_ok (free_at b)).stand_ok

  pub opened_ok : (o : Opening) → CanOpen b o → PlaceOk L (opened o)
  unfolding All StandOk
  opened_ok o can = record {
    items = tt;
    owed = omega (arith, most_pos b.largest sh.least);
    most = omega (arith, can.room);
    stand_ok = refl;
    brief = omega arith;
    ring = depth_positive;
    clear = λ _. refl;
    named = inr (can.number, can.share);
  }

  pub renamed_ok : (p old new : ℕ) → CanRename b p old new → PlaceOk L (renamed new (at b p))
  renamed_ok p old new can =
      let k = sh.place_ok p in
      record {
        items = k.items;
        owed = k.owed;
        most = k.most;
        stand_ok = k.stand_ok;
        brief = k.brief;
        ring = k.ring;
        clear = k.clear;
        named = inr (can.number, can.has.bought);
      }

  pub empty_out : (p : ℕ) → length (at b p).lane ≤ 0 → (at b p).stand ≡ out
  empty_out p h = lane_out L (at b p).share (at b p).lane (at b p).stand h (sh.place_ok p).stand_ok

  module _ (p n : ℕ) (r : Record) (can : CanTake b p n r) where
    is_named : {y : Place} → (y ≡ free_place) ⊎ ((1 ≤ (at b p).number) × (1 ≤ (at b p).share))
    is_named = inr (named_num (at b p) can.has.bought (sh.place_ok p).named, can.has.bought)

    pub joins_ok : PlaceOk L (joins b.clock (at b p) r)
    unfolding All StandOk
    joins_ok =
        let k = sh.place_ok p in
        record {
          items = ((can.least, can.most), tt);
          owed = k.owed;
          most = k.most;
          stand_ok = (omega arith, can.has.bought);
          brief = depth_positive;
          ring = k.ring;
          clear = λ f. absurd (true≢false f);
          named = is_named;
        }

    pub more_ok : 1 ≤ length (at b p).lane → PlaceOk L (more (at b p) r)
    more_ok h =
        let k = sh.place_ok p in
        record {
          items = all_snoc (InSize L) (at b p).lane r k.items (can.least, can.most);
          owed = k.owed;
          most = k.most;
          stand_ok = stand_more L (at b p).share (at b p).lane r (at b p).stand h k.stand_ok;
          brief = rw (length-append (at b p).lane (r ∷ [])) (omega (arith, can.room));
          ring = k.ring;
          clear = k.clear;
          named = is_named;
        }

-- a place that keeps its stand, share and deficit
keeps_kept : (b : Board) (p : ℕ) (z : Place) → Good b → p < length b.places
    → z.stand ≡ (at b p).stand → z.share ≡ (at b p).share → z.deficit ≡ (at b p).deficit
    → Distinct (set b.places p z) → PlaceOk b.largest z → Keeps b (record { out = done; next = go_on b p z })
keeps_kept b p z g in_p stand share deficit names zok =
    keeps_quiet b.largest b.clock b.places b.orders b.slot b.held (set b.places p z) b.orders b.held
    (set_field (λ w. w.stand) b.places p z in_p stand)
    (λ q _. (set_field (λ w. w.share) b.places p z in_p share q, set_field (λ w. w.deficit) b.places p z in_p deficit q))
    (record {
      fine = fine_same p z in_p (seat_same z (at b p) share stand) names zok g.fine;
      one = λ q. set_field (λ w. is_serving w.stand) b.places p z in_p (ap is_serving stand) q ∙ g.one q;
    })

module _ (b : Board) (p n : ℕ) (x : Record) (can : CanTake b p n x) (g : Good b) where
  in_l_lem : p < length b.places
  in_l_lem = in_places b g.fine.shape p can.has.inside

  keeps_taken : Keeps b (record { out = done; next = taken_in b p x })
  unfolding taken_in
  keeps_taken = go (leb (length (at b p).lane) 0) refl
    where
      go : (t : Bool) → leb (length (at b p).lane) 0 ≡ t
          → Keeps b (record { out = done; next = cond t (joining b p (joins b.clock (at b p) x)) (go_on b p (more (at b p) x)) })
      go true e =
          keeps_join b.largest b.clock b.places b.orders b.slot b.held (joining b p y).orders p y in_l_lem was refl g
          (record { fine = fine; one = λ q. set_field (λ z. is_serving z.stand) b.places p y in_l_lem (sym (ap is_serving was)) q ∙ g.one q })
        where
          y : Place
          y = joins b.clock (at b p) x

          was : (at b p).stand ≡ out
          was = empty_out b g.fine.shape p (true_le (length (at b p).lane) 0 e)

          fine : Fine b.largest b.clock (busy b.slot) (set b.places p y) (joining b p y).orders b.held
          fine =
              let bought = can.has.bought in
              let yok = joins_ok b g.fine.shape p n x can in
              fine_join p (at b p).start (x ∷ []) (at b p).deficit in_l_lem (busy_le b.slot) (ap is_queued was) bought yok g.fine
      go false e = keeps_kept b p z g in_l_lem refl refl refl (names_kept b.places p z in_l_lem refl refl g.fine.shape.names)
          (more_ok b g.fine.shape p n x can (false_lt (length (at b p).lane) 0 e))
        where
          z : Place
          z = more (at b p) x

-- a record that was taken is no send
keeps_as : (b nb : Board) (a : Taken) → Keeps b (record { out = done; next = nb }) → Keeps b (record { out = taken a; next = nb })
keeps_as b nb a k =
    record {
      good = k.good;
      stays = k.stays;
      some! = k.some!;
      goes = λ p w v. let o = k.goes p w v in record { share = o.share; idle = o.idle; slot = o.slot; account = o.account };
      bars = λ p e. let o = k.bars p e in record { rise = o.rise; slot = o.slot };
      comes = k.comes;
    }

pub keeps_record : (b : Board) (p n : ℕ) (x : Record) → CanTake b p n x → Good b → Keeps b (took_at b p x)
keeps_record b p n x can g = keeps_as b _ _ (keeps_taken b p n x can g)

pub keeps_rename : (b : Board) (p old new : ℕ) → CanRename b p old new → Good b → Keeps b (record { out = done; next = go_on b p (renamed new (at b p)) })
keeps_rename b p old new can g =
    let sh = g.fine.shape in
    let x = renamed new (at b p) in
    let names = names_new b sh p x can.has.inside can.nobody in
    keeps_kept b p x g (in_places b sh p can.has.inside) refl refl refl names (renamed_ok b sh p old new can)

-- a place that is out may change its share
share_else : (l : List Place) (p : ℕ) (x : Place) → (pl l p).stand ≡ out → (q : ℕ) → in_line (pl l q).stand ≡ true
    → ((pl (set l p x) q).share ≡ (pl l q).share) × ((pl (set l p x) q).deficit ≡ (pl l q).deficit)
share_else l p x was q w = rw (get_or-set_other l p q x free_place ne) (refl, refl)
  where
    ne : q ≢ p
    ne e = false≢true (sym (ap in_line was) ∙ rw e at w)

-- OPEN
pub keeps_open : (b : Board) (o : Opening) → CanOpen b o → Good b → Keeps b (record { out = done; next = go_on b (free_at b) (opened o) })
unfolding used_share
keeps_open b o can g =
    keeps_quiet b.largest b.clock b.places b.orders b.slot b.held (set b.places p z) b.orders b.held
    (set_field (λ w. w.stand) b.places p z in_p (sym was)) (share_else b.places p z was)
    (record {
      fine = fine_open p o in_p seat names (opened_ok b g.fine.shape o can) (omega (arith, can.room)) g.fine;
      one = λ q. set_field (λ w. is_serving w.stand) b.places p z in_p (sym (ap is_serving was)) q ∙ g.one q;
    })
  where
    p : ℕ
    p = free_at b

    z : Place
    z = opened o

    in_p : free_at b < length b.places
    in_p = in_places b g.fine.shape (free_at b) can.inside

    was : (at b (free_at b)).stand ≡ out
    was = free_out b g.fine.shape o can

    seat : seat_of (at b (free_at b)) ≡ seat_of free_place
    seat = seat_same (at b (free_at b)) free_place can.free was

    names : Distinct (set b.places (free_at b) (opened o))
    names = names_new b g.fine.shape (free_at b) (opened o) can.inside can.nobody

-- CLOSE
pub keeps_close : (b : Board) (p n : ℕ) → CanClose b p n → Good b → Keeps b (record { out = done; next = closed b p })
unfolding closed quiet LeastIs
keeps_close b p n can g =
    keeps_quiet b.largest b.clock b.places b.orders b.slot b.held (set b.places p free_place) b.orders H'
    (set_field (λ w. w.stand) b.places p free_place in_p (sym was)) (share_else b.places p free_place was)
    (record { fine = fine (quiet b) refl; one = λ q. set_field (λ w. is_serving w.stand) b.places p free_place in_p (sym (ap is_serving was)) q ∙ g.one q })
  where
    held : ℕ → ℕ
    held = upd b.held (block_class (at b p)) (b.held (block_class (at b p)) + (at b p).share)

    H' : ℕ → ℕ
    H' = cond (quiet b) b.held held

    in_p : p < length b.places
    in_p = in_places b g.fine.shape p can.has.inside

    was : (at b p).stand ≡ out
    was = empty_out b g.fine.shape p (omega (arith, can.empty))

    nobody : (m : Option ℕ) → LeastIs b.places m → is_none m ≡ true → (i : ℕ) → is_queued (at b i).stand ≡ false
    nobody none l e = l
    nobody (some r) l e = absurd (false≢true e)

    fine : (t : Bool) → quiet b ≡ t → Fine b.largest b.clock (busy b.slot) (set b.places p free_place) b.orders (cond t b.held held)
    fine true q =
        let none-ready = and_right (is_none b.slot) (is_none (least_ready b.places)) q in
        fine_close_quiet p in_p (nobody (least_ready b.places) (least_is b.places) none-ready) g.fine
    fine false q = fine_close p in_p (ap is_queued was) g.fine
