-- What makes a board well formed (the rules' "not spoilt"), and the small steps that keep it.
use mathlib.Core.Path.{◌≡◌, refl, sym, ap, ap₂, ◌∙◌}
use mathlib.Core.Bool.{Bool, true, false, cond, ◌&&◌, true≢false, false≢true}
use mathlib.Core.Logic.{◌⊎◌, inl, inr, ◌≢◌}
use mathlib.Core.Option.{Option, none, some}
use mathlib.Core.List.{List, [], ◌∷◌, ◌++◌}
use Prim.Native.Nat.{ℕ, zero, suc, ◌+◌, ◌*◌, ◌-◌, ◌≤◌, ◌<◌, min}
use native.Mathlib.Nat.{le_refl}
use native.Mathlib.Omega.{arith}
use native.Mathlib.Decide.{ℕ_discrete}
use lib.Dec.{leb, eqb}
use lib.ListN.{length, get_or, set, drop, length-set, get_or-eq_default}
use lib.Seq.{get_or-set_same, get_or-set_other}
use Rattle.base.proofs.Numbers.{split, leb_no, eqb_yes, eqb_true}
use Rattle.base.specs.Sums.{sum, below, one_if}
use Rattle.base.proofs.Sums.{sum_set, below_le, one_if_true, one_if_le}
use Rattle.base.specs.Tests.{least}
use Rattle.base.proofs.Tests.{least_true, least_false}
use Rattle.units.specs.Classes.{next_start, Start, class_of}
use Rattle.units.proofs.Starts.{next_mono, next_start_lem}
use Rattle.units.proofs.Classes.{class_le}
use Rattle.units.specs.Credit.{charged, largest_charge, credit_of}
use Rattle.units.proofs.Credits.{credit_least, credit_under}
use Rattle.rules.specs.Spoilt.{is_queued, ready_num, in_class, count}
use Rattle.lanes.proofs.Lanes.{depth_positive}
use Rattle.rules.specs.Board.{Record, no_record, bytes_charged, Stand, out, queued, serving, Place, moved, free_place, depth, block_class, any_due}
use Rattle.rules.specs.Choice.{upd, ready_of, lesser, least_ready, is_none, release, settle, started}
use Rattle.rules.proofs.Line.{HeldStays}
use Rattle.rules.proofs.Orders.{pl, ready, InOrders, listed_same, listed_join, listed_leave, Rising, rising_away, rising_kept, rising_snoc, first_due}
use Rattle.rules.proofs.Orders.{due_any, upd_same, upd_other, in_head, count_head, rising_tail}
use Rattle.rules.proofs.Orders

-- the least ready time: it is none, or one that is reached, and none is below it
unfoldable pub LeastIs : List Place → Option ℕ → Type 0
LeastIs l none = (i : ℕ) → is_queued (pl l i).stand ≡ false
LeastIs l (some r) = ((i : ℕ) → is_queued (pl l i).stand ≡ true → r ≤ ready l i) × ((i : ℕ) × (is_queued (pl l i).stand ≡ true) × (ready l i ≡ r))

-- the first place is in no order
not_here : (x : Place) (xs : List Place) (o : Option ℕ) → is_queued x.stand ≡ false → LeastIs xs o → LeastIs (x ∷ xs) o
unfolding LeastIs
not_here x xs none e h = λ i. go i
  where
    go : (i : ℕ) → is_queued (pl (x ∷ xs) i).stand ≡ false
    go zero = e
    go (suc i) = h i
not_here x xs (some r) e h = (go, (suc h.1.0, h.1.1, h.1.2))
  where
    go : (i : ℕ) → is_queued (pl (x ∷ xs) i).stand ≡ true → r ≤ ready (x ∷ xs) i
    go zero f = absurd (false≢true (sym e ∙ f))
    go (suc i) f = h.0 i f

is_here : (x : Place) (xs : List Place) (a : ℕ) (o : Option ℕ) → x.stand ≡ queued a → LeastIs xs o → LeastIs (x ∷ xs) (lesser (some a) o)
unfolding LeastIs
is_here x xs a none e h = (go, (0, ap is_queued e, ap ready_num e))
  where
    go : (i : ℕ) → is_queued (pl (x ∷ xs) i).stand ≡ true → a ≤ ready (x ∷ xs) i
    go zero f = omega (arith, ap ready_num e)
    go (suc i) f = absurd (false≢true (sym (h i) ∙ f))
is_here x xs a (some r) e h = (go, reach (split a r))
  where
    go : (i : ℕ) → is_queued (pl (x ∷ xs) i).stand ≡ true → min a r ≤ ready (x ∷ xs) i
    go zero f = omega (arith, ap ready_num e)
    go (suc i) f = omega (arith, h.0 i f)

    reach : (a ≤ r) ⊎ (r < a) → (i : ℕ) × (is_queued (pl (x ∷ xs) i).stand ≡ true) × (ready (x ∷ xs) i ≡ min a r)
    reach (inl l) = (0, ap is_queued e, omega (arith, ap ready_num e))
    reach (inr l) = (suc h.1.0, h.1.1, omega (arith, h.1.2))

pub least_is : (l : List Place) → LeastIs l (least_ready l)
unfolding LeastIs least_ready
least_is [] = λ i. refl
least_is (x ∷ xs) = go x.stand refl (least_is xs)
  where
    go : (s : Stand) → x.stand ≡ s → LeastIs xs (least_ready xs) → LeastIs (x ∷ xs) (lesser (ready_of s) (least_ready xs))
    go out e h = not_here x xs (least_ready xs) (ap is_queued e) h
    go (queued a) e h = is_here x xs a (least_ready xs) e h
    go (serving n) e h = not_here x xs (least_ready xs) (ap is_queued e) h

-- ITEMS AND PLACES
unfoldable pub All : {A : Type 0} → (A → Type 0) → List A → Type 0
All P [] = Unit {0}
All P (x ∷ xs) = P x × All P xs

pub all_snoc : {A : Type 0} (P : A → Type 0) (l : List A) (x : A) → All P l → P x → All P (l ++ (x ∷ []))
unfolding All
all_snoc P [] x a h = (h, tt)
all_snoc P (y ∷ l) x a h = (a.0, all_snoc P l x a.1 h)

pub all_rest : {A : Type 0} (P : A → Type 0) (l : List A) → All P l → All P (drop 1 l)
unfolding All
all_rest P [] a = tt
all_rest P (y ∷ l) a = a.1

pub all_front : {A : Type 0} (P : A → Type 0) (d : A) (l : List A) → 1 ≤ length l → All P l → P (get_or l 0 d)
unfolding All
all_front P d [] h a = absurd (omega arith)
all_front P d (y ∷ l) h a = a.0

-- what a place's lane and slot must be, by where its block stands
unfoldable pub StandOk : ℕ → ℕ → List Record → Stand → Type 0
StandOk L share lane out = length lane ≡ 0
StandOk L share lane (queued r) = (1 ≤ length lane) × (1 ≤ share)
StandOk L share lane (serving n) = (1 ≤ length lane) × (1 ≤ share) × (bytes_charged (get_or lane 0 no_record) * 65536 ≤ n) × (n < 3 * largest_charge L * 65536)

-- a record has 1 to L bytes
abbrev pub InSize : ℕ → Record → Type 0
InSize L y = (1 ≤ y.bytes) × (y.bytes ≤ L)

-- so its charge is at least one byte and at most the largest charge
pub fit_charge : (L : ℕ) (y : Record) → InSize L y → (1 ≤ bytes_charged y) × (bytes_charged y ≤ largest_charge L)
unfolding bytes_charged charged largest_charge
fit_charge L y f = (omega arith, omega arith)

pub most_pos : (L : ℕ) → 64 ≤ L → 1 ≤ largest_charge L
unfolding charged largest_charge
most_pos L h = omega arith

pub record PlaceOk (L : ℕ) (x : Place) : Type 0 where
  pub items : All (InSize L) x.lane
  pub owed : x.deficit < largest_charge L * 65536
  pub most : x.share ≤ 65536
  pub stand_ok : StandOk L x.share x.lane x.stand
  -- a lane has no more records than its depth; only a block in an order has a deficit; a place is free, or has a number and a share
  pub brief : length x.lane ≤ depth x
  pub ring : x.start < depth x
  pub clear : is_queued x.stand ≡ false → x.deficit ≡ 0
  pub named : (x ≡ free_place) ⊎ ((1 ≤ x.number) × (1 ≤ x.share))

-- a property of every place, after a change at one
pub set_all : (P : Place → Type 0) (l : List Place) (p : ℕ) (x : Place) → p < length l → P x → ((q : ℕ) → P (pl l q)) → (q : ℕ) → P (pl (set l p x) q)
set_all P l p x h new ok q = go (ℕ_discrete q p)
  where
    go : Dec (q ≡ p) → P (pl (set l p x) q)
    go (yes e) = rw (e, get_or-set_same l p x free_place h) new
    go (no e) = rw (get_or-set_other l p q x free_place e) (ok q)

-- ready times are starts of the class, and none is above the next start above the clock
abbrev pub SeatP : ℕ → Place → Type 0
SeatP c x = is_queued x.stand ≡ true → (Start (block_class x) (ready_num x.stand)) × (ready_num x.stand ≤ next_start (block_class x) c)

-- open blocks have distinct numbers
abbrev pub Distinct : List Place → Type 0
Distinct l = (p q : ℕ) → 1 ≤ (pl l p).share → 1 ≤ (pl l q).share → (pl l p).number ≡ (pl l q).number → p ≡ q

pub record Shape (L c : ℕ) (l : List Place) (o : ℕ → List ℕ) (H : ℕ → ℕ) : Type 0 where
  pub least : 64 ≤ L
  pub most : L ≤ 2048
  pub all64 : length l ≡ 64
  pub place_ok : (p : ℕ) → PlaceOk L (pl l p)
  pub seat : (p : ℕ) → SeatP c (pl l p)
  pub used_share : sum (λ x. x.share) l + below H 17 ≤ 65536
  pub names : Distinct l
  pub listed : InOrders l o
  pub rising : (k : ℕ) → Rising l (o k)

-- a new holder of place p has a number that no other open block has
pub names_set : (l : List Place) (p : ℕ) (x : Place) → p < length l → ((q : ℕ) → q ≢ p → 1 ≤ (pl l q).share → 1 ≤ x.share → (pl l q).number ≢ x.number)
    → Distinct l → Distinct (set l p x)
names_set l p x h apart dis i j = go (ℕ_discrete i p) (ℕ_discrete j p)
  where
    goal : Type 0
    goal = 1 ≤ (pl (set l p x) i).share → 1 ≤ (pl (set l p x) j).share → (pl (set l p x) i).number ≡ (pl (set l p x) j).number → i ≡ j

    go : Dec (i ≡ p) → Dec (j ≡ p) → 1 ≤ (pl (set l p x) i).share → 1 ≤ (pl (set l p x) j).share → (pl (set l p x) i).number ≡ (pl (set l p x) j).number → i ≡ j
    go (yes e) (yes f) a b n = e ∙ sym f
    go (yes e) (no f) a b n =
        absurd (apart j f (rw (get_or-set_other l p j x free_place f) at b) (rw (e, get_or-set_same l p x free_place h) at a)
        (sym (rw (e, get_or-set_same l p x free_place h, get_or-set_other l p j x free_place f) at n)))
    go (no e) (yes f) a b n =
        absurd (apart i e (rw (get_or-set_other l p i x free_place e) at a) (rw (f, get_or-set_same l p x free_place h) at b)
        (rw (f, get_or-set_same l p x free_place h, get_or-set_other l p i x free_place e) at n))
    go (no e) (no f) a b n =
        dis i j (rw (get_or-set_other l p i x free_place e) at a) (rw (get_or-set_other l p j x free_place f) at b)
        (rw (get_or-set_other l p i x free_place e, get_or-set_other l p j x free_place f) at n)

-- the same number and share as before
pub names_kept : (l : List Place) (p : ℕ) (x : Place) → p < length l → x.number ≡ (pl l p).number → x.share ≡ (pl l p).share → Distinct l → Distinct (set l p x)
names_kept l p x h n s dis = names_set l p x h (λ q ne a b e. ne (dis q p a (rw s at b) (e ∙ n))) dis

both : (b : Bool) (k m : ℕ) → b && eqb k m ≡ true → (b ≡ true) × (k ≡ m)
both true k m e = (refl, eqb_true k m e)
both false k m e = absurd (false≢true e)

-- what an order lists is waiting, in its class
pub listed_in : (l : List Place) (o : ℕ → List ℕ) → InOrders l o → (k q : ℕ) → 1 ≤ count q (o k)
    → (is_queued (pl l q).stand ≡ true) × (k ≡ block_class (pl l q))
listed_in l o li k q h = both (is_queued (pl l q).stand) k (block_class (pl l q)) (one_if_true (in_class k (pl l q)) (omega (arith, li k q)))

pub listed_out : (l : List Place) (o : ℕ → List ℕ) → InOrders l o → (k q : ℕ) → is_queued (pl l q).stand ≡ false → count q (o k) ≡ 0
listed_out l o li k q e = rw (li k q, e)

-- HELD SHARES only fall
pub release_le : (c t : ℕ) (H : ℕ → ℕ) (j : ℕ) → release c t H j ≤ H j
unfolding release
release_le c t H j = go (leb (next_start j c) t)
  where
    go : (b : Bool) → cond b 0 (H j) ≤ H j
    go true = omega arith
    go false = omega arith

pub release_kept : (c t : ℕ) (H : ℕ → ℕ) → HeldStays c t H (release c t H)
unfolding release
release_kept c t H j h = rw (leb_no (next_start j c) t h)

-- THE CHOICE
pub record Chosen (l : List Place) (o : ℕ → List ℕ) (t k p : ℕ) : Type 0 where
  pub first : o k ≡ p ∷ drop 1 (o k)
  pub is_kind : k ≡ block_class (pl l p)
  pub is_q : is_queued (pl l p).stand ≡ true
  pub is_due : ready l p ≤ t
  pub is_low : (i : ℕ) → is_queued (pl l i).stand ≡ true → ready l i ≤ t → k ≤ block_class (pl l i)

cons_of : (l : List Place) (t : ℕ) (ps : List ℕ) → any_due l t ps ≡ true → ps ≡ get_or ps 0 0 ∷ drop 1 ps
unfolding any_due
cons_of l t [] e = absurd (false≢true e)
cons_of l t (p ∷ ps) e = refl

-- a block in an order that is due makes its class pending
pub due_pending : (l : List Place) (o : ℕ → List ℕ) (t : ℕ) → InOrders l o → (i : ℕ) → is_queued (pl l i).stand ≡ true → ready l i ≤ t
    → any_due l t (o (block_class (pl l i))) ≡ true
due_pending l o t li i e a = due_any l t i (o (block_class (pl l i))) (omega (arith, li (block_class (pl l i)) i, ap one_if here)) e a
  where
    here : in_class (block_class (pl l i)) (pl l i) ≡ true
    here = rw (e, eqb_yes (block_class (pl l i)) (block_class (pl l i)) refl)

pub choose : (l : List Place) (o : ℕ → List ℕ) (t r : ℕ) → InOrders l o → ((k : ℕ) → Rising l (o k)) → LeastIs l (some r) → r ≤ t
    → Chosen l o t (least (λ k. any_due l t (o k)) 17) (get_or (o (least (λ k. any_due l t (o k)) 17)) 0 0)
unfolding LeastIs
choose l o t r li ri least h = record { first = first; is_kind = w.1; is_q = w.0; is_due = due; is_low = low }
  where
    test : ℕ → Bool
    test j = any_due l t (o j)

    k : ℕ
    k = Rattle.base.specs.Tests.least test 17

    p : ℕ
    p = get_or (o k) 0 0

    low : (i : ℕ) → is_queued (pl l i).stand ≡ true → ready l i ≤ t → k ≤ block_class (pl l i)
    low i e a = go (split k (block_class (pl l i)))
      where
        go : (k ≤ block_class (pl l i)) ⊎ (block_class (pl l i) < k) → k ≤ block_class (pl l i)
        go (inl x) = x
        go (inr x) = absurd (true≢false (sym (due_pending l o t li i e a) ∙ least_false test 17 (block_class (pl l i)) x))

    in17 : k < 17
    in17 = omega (arith, low least.1.0 least.1.1 (omega (arith, least.1.2)), class_le (pl l least.1.0).share)

    any : any_due l t (o k) ≡ true
    any = least_true test 17 in17

    first : o k ≡ p ∷ drop 1 (o k)
    first = cons_of l t (o k) any

    due : ready l p ≤ t
    due = first_due l t p (drop 1 (o k)) (rw first at (ri k)) (rw first at any)

    w : (is_queued (pl l p).stand ≡ true) × (k ≡ block_class (pl l p))
    w = listed_in l o li k p (rw first (in_head p (drop 1 (o k))))

pub queued_ok : (L share : ℕ) (lane : List Record) (s : Stand) → is_queued s ≡ true → StandOk L share lane s → (1 ≤ length lane) × (1 ≤ share)
unfolding StandOk
queued_ok L share lane out e h = absurd (false≢true e)
queued_ok L share lane (queued r) e h = h
queued_ok L share lane (serving n) e h = absurd (false≢true e)

-- an open block has a number
pub named_num : (x : Place) → 1 ≤ x.share → (x ≡ free_place) ⊎ ((1 ≤ x.number) × (1 ≤ x.share)) → 1 ≤ x.number
named_num x h (inl e) = absurd (omega (arith, ap (λ (y : Place). y.share) e))
named_num x h (inr k) = k.0

pub started_ok : (L : ℕ) (x : Place) → 64 ≤ L → is_queued x.stand ≡ true → PlaceOk L x → PlaceOk L (started L x)
unfolding StandOk
started_ok L x c1 e ok =
    record {
      items = ok.items;
      owed = omega (arith, most_pos L c1);
      most = ok.most;
      stand_ok =
          (q.0, q.1, fits, omega (arith, ok.owed, credit_under L x.share ok.most (most_pos L c1)));
      brief = ok.brief;
      ring = ok.ring;
      clear = λ _. refl;
      named = inr (named_num x q.1 ok.named, q.1);
    }
  where
    q : (1 ≤ length x.lane) × (1 ≤ x.share)
    q = queued_ok L x.share x.lane x.stand e ok.stand_ok

    small : bytes_charged (get_or x.lane 0 no_record) ≤ largest_charge L
    small = (fit_charge L (get_or x.lane 0 no_record) (all_front (InSize L) no_record x.lane q.0 ok.items)).1

    fits : bytes_charged (get_or x.lane 0 no_record) * 65536 ≤ x.deficit + credit_of L x.share
    fits = omega (arith, small, credit_least L x.share q.1)

pub queued_in : (l : List Place) (p : ℕ) → is_queued (pl l p).stand ≡ true → p < length l
queued_in l p e = go (split (length l) p)
  where
    go : (length l ≤ p) ⊎ (p < length l) → p < length l
    go (inr h) = h
    go (inl h) = absurd (true≢false (sym e ∙ ap (λ (x : Place). is_queued x.stand) (get_or-eq_default l free_place h)))

-- THE STEPS
sum_share : (l : List Place) (p : ℕ) (x : Place) → p < length l → x.share ≡ (pl l p).share → sum (λ y. y.share) (set l p x) ≡ sum (λ y. y.share) l
sum_share l p x h e = omega (arith, sum_set (λ y. y.share) free_place l p x h)

-- a change that the orders and the clock don't see
pub shape_same : {L c : ℕ} {l : List Place} {o : ℕ → List ℕ} {H : ℕ → ℕ} (p : ℕ) (x : Place) → p < length l
    → x.share ≡ (pl l p).share → is_queued x.stand ≡ is_queued (pl l p).stand → ready_num x.stand ≡ ready l p
    → Distinct (set l p x) → PlaceOk L x → Shape L c l o H → Shape L c (set l p x) o H
shape_same {L} {c} {l} {o} {H} p x h e q r dis new f =
    record {
      least = f.least;
      most = f.most;
      all64 = length-set l p x ∙ f.all64;
      place_ok = set_all (PlaceOk L) l p x h new f.place_ok;
      seat = set_all (SeatP c) l p x h seat f.seat;
      used_share = omega (arith, f.used_share, sum_share l p x h e);
      names = dis;
      listed = listed_same l o p x h (λ k. ap₂ (λ (b : Bool) (n : ℕ). b && eqb k (class_of n)) q e) f.listed;
      rising = λ k. rising_kept l (o k) p x h r (f.rising k);
    }
  where
    seat : SeatP c x
    seat a = let w = f.seat p (sym q ∙ a) in rw (e, r) w

-- a block joins its order
abbrev pub joined_as : ℕ → ℕ → List Record → ℕ → Place → Place
joined_as c start lane owed x = moved x start lane owed (queued (next_start (block_class x) c))

pub shape_join : {L c : ℕ} {l : List Place} {o : ℕ → List ℕ} {H : ℕ → ℕ} (p start : ℕ) (lane : List Record) (owed : ℕ) → p < length l
    → is_queued (pl l p).stand ≡ false → PlaceOk L (joined_as c start lane owed (pl l p))
    → Shape L c l o H
    → Shape L c (set l p (joined_as c start lane owed (pl l p))) (upd o (block_class (pl l p)) (o (block_class (pl l p)) ++ (p ∷ []))) H
shape_join {L} {c} {l} {o} {H} p start lane owed h was new f =
    record {
      least = f.least;
      most = f.most;
      all64 = length-set l p x ∙ f.all64;
      place_ok = set_all (PlaceOk L) l p x h new f.place_ok;
      seat = set_all (SeatP c) l p x h (λ _. (next_start_lem k c, le_refl (next_start k c))) f.seat;
      used_share = omega (arith, f.used_share, sum_share l p x h refl);
      names = names_kept l p x h refl refl f.names;
      listed = listed_join l o p x h was refl f.listed;
      rising = rising;
    }
  where
    x : Place
    x = joined_as c start lane owed (pl l p)

    k : ℕ
    k = block_class (pl l p)

    low : (q : ℕ) → 1 ≤ count q (o k) → ready (set l p x) q ≤ ready (set l p x) p
    low q a = rw (get_or-set_other l p q x free_place ne, get_or-set_same l p x free_place h) (rw (← w.1) at (f.seat q w.0).1)
      where
        w : (is_queued (pl l q).stand ≡ true) × (k ≡ block_class (pl l q))
        w = listed_in l o f.listed k q a

        ne : q ≢ p
        ne e = false≢true (sym was ∙ rw e at w.0)

    away : (j : ℕ) → Rising (set l p x) (o j)
    away j = rising_away l (o j) p x (listed_out l o f.listed j p was) (f.rising j)

    rising : (j : ℕ) → Rising (set l p x) (upd o k (o k ++ (p ∷ [])) j)
    rising j = go (ℕ_discrete j k)
      where
        go : Dec (j ≡ k) → Rising (set l p x) (upd o k (o k ++ (p ∷ [])) j)
        go (yes e) = rw (e, upd_same o k (o k ++ (p ∷ []))) (rising_snoc (set l p x) (o k) p low (away k))
        go (no e) = rw (upd_other o k (o k ++ (p ∷ [])) j e) (away j)

-- the clock goes on, and held shares fall
pub shape_clock : {L c : ℕ} {l : List Place} {o : ℕ → List ℕ} {H : ℕ → ℕ} (t : ℕ) (H' : ℕ → ℕ) → c ≤ t → ((j : ℕ) → H' j ≤ H j) → Shape L c l o H
    → Shape L t l o H'
shape_clock {L} {c} {l} {o} {H} t H' h less f =
    record {
      least = f.least;
      most = f.most;
      all64 = f.all64;
      place_ok = f.place_ok;
      seat = λ p a. let w = f.seat p a in (w.0, omega (arith, w.1, next_mono (block_class (pl l p)) c t h));
      used_share = omega (arith, f.used_share, below_le H' H 17 (λ j _. less j));
      names = f.names;
      listed = f.listed;
      rising = f.rising;
    }

pub settle_le : (c t : ℕ) (l : List Place) (H : ℕ → ℕ) (j : ℕ) → settle l (release c t H) j ≤ H j
unfolding settle
settle_le c t l H j = go (is_none (least_ready l))
  where
    go : (b : Bool) → cond b 0 (release c t H j) ≤ H j
    go true = omega arith
    go false = release_le c t H j

-- a slot begins
pub shape_begin : {L c : ℕ} {l : List Place} {o : ℕ → List ℕ} {H : ℕ → ℕ} (t k p : ℕ) → Chosen l o t k p → Shape L c l o H
    → Shape L c (set l p (started L (pl l p))) (upd o k (drop 1 (o k))) H
shape_begin {L} {c} {l} {o} {H} t k p ch f =
    record {
      least = f.least;
      most = f.most;
      all64 = length-set l p x ∙ f.all64;
      place_ok = set_all (PlaceOk L) l p x h (started_ok L (pl l p) f.least ch.is_q (f.place_ok p)) f.place_ok;
      seat = set_all (SeatP c) l p x h (λ e. absurd (false≢true e)) f.seat;
      used_share = omega (arith, f.used_share, sum_share l p x h refl);
      names = names_kept l p x h refl refl f.names;
      listed = listed_leave l o k p (drop 1 (o k)) x h ch.first refl f.listed;
      rising = rising;
    }
  where
    x : Place
    x = started L (pl l p)

    h : p < length l
    h = queued_in l p ch.is_q

    gone : (j : ℕ) → j ≢ k → count p (o j) ≡ 0
    gone j e = go (split 1 (count p (o j)))
      where
        go : (1 ≤ count p (o j)) ⊎ (count p (o j) < 1) → count p (o j) ≡ 0
        go (inl a) = absurd (e ((listed_in l o f.listed j p a).1 ∙ sym ch.is_kind))
        go (inr a) = omega arith

    rest : count p (drop 1 (o k)) ≡ 0
    rest = omega (arith, f.listed k p, one_if_le (in_class k (pl l p)), ap (count p) ch.first, count_head p (drop 1 (o k)))

    tail : Rising l (drop 1 (o k))
    tail = rising_tail l (o k) (f.rising k)

    rising : (j : ℕ) → Rising (set l p x) (upd o k (drop 1 (o k)) j)
    rising j = go (ℕ_discrete j k)
      where
        go : Dec (j ≡ k) → Rising (set l p x) (upd o k (drop 1 (o k)) j)
        go (yes e) = rw (e, upd_same o k (drop 1 (o k))) (rising_away l (drop 1 (o k)) p x rest tail)
        go (no e) = rw (upd_other o k (drop 1 (o k)) j e) (rising_away l (o j) p x (gone j e) (f.rising j))

-- a place that is in no order is given another holder, or none
pub shape_other : {L c : ℕ} {l : List Place} {o : ℕ → List ℕ} {H : ℕ → ℕ} (p : ℕ) (x : Place) (H' : ℕ → ℕ) → p < length l
    → is_queued (pl l p).stand ≡ false → is_queued x.stand ≡ false → Distinct (set l p x) → PlaceOk L x
    → sum (λ y. y.share) l + below H' 17 + x.share ≤ 65536 + (pl l p).share
    → Shape L c l o H → Shape L c (set l p x) o H'
shape_other {L} {c} {l} {o} {H} p x H' h was is dis new room f =
    record {
      least = f.least;
      most = f.most;
      all64 = length-set l p x ∙ f.all64;
      place_ok = set_all (PlaceOk L) l p x h new f.place_ok;
      seat = set_all (SeatP c) l p x h (λ e. absurd (false≢true (sym is ∙ e))) f.seat;
      used_share = omega (arith, room, sum_set (λ y. y.share) free_place l p x h);
      names = dis;
      listed = listed_same l o p x h (λ k. rw (was, is)) f.listed;
      rising = λ k. rising_away l (o k) p x (listed_out l o f.listed k p was) (f.rising k);
    }

pub free_ok : (L : ℕ) → 64 ≤ L → PlaceOk L free_place
unfolding StandOk All
free_ok L h =
    record {
      items = tt;
      owed = omega (arith, most_pos L h);
      most = omega arith;
      stand_ok = refl;
      brief = omega arith;
      ring = depth_positive;
      clear = λ _. refl;
      named = inl refl;
    }
