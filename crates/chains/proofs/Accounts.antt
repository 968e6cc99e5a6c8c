-- A block's account along a chain is its account over the rules' run of the same calls: so it balances with what the last value holds.
use mathlib.Core.Path.{◌≡◌, refl, sym, ap, ap₂, subst, ◌∙◌}
use mathlib.Core.Bool.{Bool, true, false, cond, ◌&&◌, true≢false}
use mathlib.Core.Logic.{◌≢◌}
use mathlib.Core.Option.{Option, some}
use mathlib.Core.List.{List, [], ◌∷◌, ◌++◌, map, append-nil}
use Prim.Native.Nat.{ℕ, zero, suc, ◌+◌, ◌*◌, ◌-◌, ◌^◌, ◌≤◌}
use native.Mathlib.Nat.{zero-add, add-mul, zero-mul, one-mul}
use native.Mathlib.Omega.{arith}
use native.Mathlib.Decide.{ℕ_discrete}
use lib.Dec.{eqb}
use lib.ListN.{length, get_or}
use Rattle.base.specs.Sums.{one_if, sum}
use Rattle.base.proofs.Numbers.{leb_yes, eqb_yes, eqb_true}
use Rattle.units.specs.Credit.{charged, credit_of}
use Rattle.rules.specs.Board
use Rattle.rules.specs.Board.{bytes_charged, Stand, out, queued, serving, Place, at, Has, fresh}
use Rattle.rules.specs.Choice.{Sending, Out, refused, done, taken, sent, Turn, open_at, find, is_none, left_of, serve, where_is}
use Rattle.rules.specs.Spoilt.{is_queued}
use Rattle.rules.specs.Blocks.{Opening, opened}
use Rattle.rules.specs.Calls.{Single, open!, step, one, Answer, gives, takes, sends, bursts, told, code_of}
use Rattle.rules.specs.Runs
use Rattle.rules.specs.Runs.{play, answer, is_for, number_after, closes, clock_of, share_of, sent_for, Story, begins, goes_on, tells}
use Rattle.rules.specs.Promises.{OfRun, in_hand, SendTells}
use Rattle.rules.proofs.Shape.{StandOk}
use Rattle.rules.proofs.Tidy.{Tidy}
use Rattle.rules.proofs.TidyCalls.{tidy_step}
use Rattle.rules.proofs.Cases.{other_cases}
use Rattle.rules.proofs.Frame.{size_step, size_play}
use Rattle.rules.proofs.Stories.{opened_by_lem}
use Rattle.rules.proofs.Names.{has_where, find_has, has_share}
use Rattle.rules.proofs.Sendings.{sends_tell}
use Rattle.board.specs.Reading.{slot_link, slot_by}
use Rattle.accounts.specs.Accounts.{Account, no_account, due, got, added}
use Rattle.accounts.specs.Promises.{Balances, with_call, account_of}
use Rattle.accounts.proofs.Promises.{block_balances}
use Rattle.board.specs.Memory.{Holding}
use Rattle.chains.specs.Chains.{Did, Chain, stops, goes}
use Rattle.chains.specs.Demands.{reads, KnownHolding, over, story, last_slot, Life, slots_in}
use Rattle.chains.specs.Accounts.{place_in, in_hand_in, no_slot, none_in, credit_by, lost_by, sent_from, with_answer, account_along, life_account, BalancesIn}
use Rattle.chains.specs.Accounts.{ChainAccountsBalance, ChainNeverAboveDue, ChainCreditOfSlots, ChainBytesSent, ChainSlotsTold}
use Rattle.chains.proofs.Values.{slot_reads, size_reads, none_by, tidy_reads, share_is, deficit_is, count_is, slot_is, left_is, in_hand_is}
use Rattle.chains.proofs.Chains.{did_agrees}
use Rattle.chains.proofs.Rows.{At, at_made, at_tidy, at_on, said_of, along, story_said}
use Rattle.chains.proofs.Slots.{slots_said}
use Rattle.chains.proofs.Demands.{Named, named, KeepsPlace, seat_step, FromOpening, life_opening, opened_at_lem, life_at, life_last, conserved}
use Rattle.chains.proofs.Limits.{answer_in_time}

-- a block whose lane is empty has nothing in hand
nothing_left : (L share : ℕ) (lane : List Board.Record) (x : Stand) → StandOk L share lane x → length lane ≡ 0 → (is_queued x ≡ false) × (left_of x ≡ 0)
unfolding StandOk
nothing_left L share lane out ok e = (refl, refl)
nothing_left L share lane (queued r) ok e = absurd (omega (arith, ok.0))
nothing_left L share lane (serving n) ok e = absurd (omega (arith, ok.0))

empty_hand : (b : Board.Board) (p : ℕ) → Tidy b → length (at b p).lane ≡ 0 → in_hand (at b p) ≡ 0
empty_hand b p g e =
    let ok = g.shape.place_ok p in
    let z = nothing_left b.largest (at b p).share (at b p).lane (at b p).stand ok.stand_ok e in
    omega (arith, ok.clear z.0, z.1)

-- ---- a send adds to the account what the rules' send adds

charge_is : (r : Board.Record) → charged r.bytes ≡ bytes_charged r
unfolding bytes_charged
charge_is r = refl

module _ (s m : Holding) (k : KnownHolding s) (l : KnownHolding m) (z : Sending) (t : SendTells (reads s) (reads m) z) where
  began_is : no_slot s ≡ z.began
  began_is = sym (none_by s.board.slot) ∙ ap is_none (sym (slot_reads s)) ∙ sym t.began

  credit_is : credit_by s z.place ≡ cond z.began (credit_of (reads s).largest (at (reads s) z.place).share) 0
  credit_is =
      ap₂ (λ (u : Bool) (c : ℕ). cond u c 0) began_is
      (ap₂ credit_of (sym (size_reads s)) (share_is s k z.place))

  lost_is : lost_by s m z.place z.front.bytes ≡ z.lost
  lost_is = go (none_in m z.place) refl
    where
      p : ℕ
      p = z.place

      parts : in_hand (at (reads m) p) + z.lost + charged z.front.bytes * 65536 ≡ in_hand_in s p + credit_by s p
      parts =
          ap (λ (c : ℕ). in_hand (at (reads m) p) + z.lost + c * 65536) (charge_is z.front)
          ∙ t.parts
          ∙ ap₂ (λ (i j : ℕ). i + j) (sym (in_hand_is s k p)) (sym credit_is)

      go : (u : Bool) → none_in m p ≡ u → cond u (in_hand_in s p + credit_by s p - charged z.front.bytes * 65536) 0 ≡ z.lost
      go true e =
          let none! = sym (count_is m l p) ∙ eqb_true (get_or m.board.counts p 0) 0 e in
          omega (arith, parts, empty_hand (reads m) p (tidy_reads m l) none!)
      go false e = sym (t.lost (some! (ℕ_discrete (length (at (reads m) p).lane) 0)))
        where
          some! : Dec (length (at (reads m) p).lane ≡ 0) → 1 ≤ length (at (reads m) p).lane
          some! (yes f) = absurd (true≢false (sym (eqb_yes (get_or m.board.counts p 0) 0 (count_is m l p ∙ f)) ∙ e))
          some! (no f) = omega arith

  sent_is : (a : Account) → sent_from s m z.place z.front.bytes a ≡ added (credit_of (reads s).largest (at (reads s) z.place).share) z a
  unfolding sent_from added
  sent_is a = λ i. record {
    slots = a.slots + one_if (began_is i);
    credit = a.credit + credit_is i;
    bytes = a.bytes + charge_is z.front i;
    lost = a.lost + lost_is i;
  }

-- ---- an answer adds to it what the rules' call adds

serve_adds : (n : ℕ) (s m : Holding) (a : Account) → KnownHolding s → KnownHolding m → reads m ≡ (serve (reads s)).next
    → with_answer n s m (told (reads s) (serve (reads s)).out) a ≡ with_call n (reads s) (serve (reads s)).out a
unfolding step
serve_adds n s m a k l e = go (serve b).out refl (named b (tidy_reads s k))
  where
    b : Board.Board
    b = reads s

    go : (o : Out) → (serve b).out ≡ o → Named b o → with_answer n s m (told b o) a ≡ with_call n b o a
    go (refused code) f h = refl
    go done f h = refl
    go (taken r) f h = refl
    go (sent z) f h = own (eqb n (at b z.place).number) refl
      where
        t : SendTells b (reads m) z
        t = subst (λ (next : Board.Board). SendTells b next z) (sym e) (sends_tell b (tidy_reads s k) z f)

        own : (u : Bool) → eqb n (at b z.place).number ≡ u
            → cond u (sent_from s m (where_is b n) z.front.bytes a) a ≡ cond u (added (credit_of b.largest (share_of b n)) z a) a
        own false q = refl
        own true q =
            let here = subst (Has b z.place) (sym (eqb_true n (at b z.place).number q)) h in
            ap (λ (p : ℕ). sent_from s m p z.front.bytes a) (has_where b z.place n (tidy_reads s k) here)
            ∙ sent_is s m k l z t a
            ∙ ap (λ (share : ℕ). added (credit_of b.largest share) z a) (sym (has_share b z.place n (tidy_reads s k) here))

abbrev Adds : ℕ → Holding → Account → Single → Turn → Type 0
Adds n s a x u = (m : Holding) → KnownHolding m → reads m ≡ u.next → with_answer n s m (told (reads s) u.out) a ≡ with_call n (reads s) u.out a

call_adds : (n : ℕ) (s : Holding) (a : Account) → KnownHolding s → (x : Single) → Adds n s a x (step (reads s) x)
call_adds n s a k = other_cases (reads s) (Adds n s a) (record {
  refused = λ x code r m l e. refl;
  opens = λ o c m l e. refl;
  renames = λ old new c m l e. refl;
  closes = λ q c m l e. refl;
  takes = λ q r c m l e. refl;
}) (λ m l e. serve_adds n s m a k l e)

-- ---- THE ACCOUNT ALONG A CHAIN is that over the rules' run

pub account_along_lem : {s e : Holding} {said : List Answer} (n : ℕ) (xs : List Single) (c : Chain s (map one xs) said e) (a : Account) → KnownHolding s
    → account_along n xs c a ≡ account_of n (reads s) xs a
unfolding account_along account_of
account_along_lem n [] c a k = refl
account_along_lem {s = s} n (x ∷ xs) (goes {m = m} {a = said} d rest) a k =
    let g = did_agrees s m (one x) said k d in
    account_along_lem (number_after n x said) xs rest (with_answer n s m said a) g.good
    ∙ ap (λ (b : Board.Board). account_of (number_after n x said) b xs (with_answer n s m said a)) g.after
    ∙ ap (λ (r : Answer). account_of (number_after n x r) (step (reads s) x).next xs (with_answer n s m r a)) g.told!
    ∙ ap (account_of (number_after n x (answer (reads s) x)) (step (reads s) x).next xs) (call_adds n s a k x m g.good g.after)

-- from its opening on
pub account_opened : {f o e : Holding} {said : List Answer} (given : Opening) (xs : List Single) → KnownHolding f → Did f (one (open! given)) (gives 0) o
    → (c : Chain o (map one xs) said e)
    → account_along given.number xs c no_account ≡ account_of given.number (step (reads f) (open! given)).next xs no_account
account_opened {f = f} {o = o} given xs k opens c =
    let d = did_agrees f o (one (open! given)) (gives 0) k opens in
    account_along_lem given.number xs c no_account d.good ∙ ap (λ (b : Board.Board). account_of given.number b xs no_account) d.after

life_account_lem : (L : ℕ) (given : Opening) (st : Story) (last : Option ℕ) (e : Holding) (l : Life L given st last e)
    → let o = life_opening L given st last e l in life_account l ≡ account_of given.number (step o.from (open! given)).next o.xs no_account
unfolding life_opening
life_account_lem L given st last e l =
    let w = l.opened in
    account_opened given l.xs (at_on L (at_made L w.start w.made) w.row.chain).good w.opens l.row.singles

-- ---- it balances

-- the rules' balance, from any board of a run
abbrev BalancesFrom : Opening → List Single → Board.Board → Type 0
BalancesFrom given xs from =
    let b = (step from (open! given)).next in
    code_of (answer from (open! given)) ≡ 0 → (Runs.story (begins given.number) b xs).closed ≡ false
    → (p : ℕ) → Has (play b xs) p (Runs.story (begins given.number) b xs).number
    → Balances (play b xs) p (account_of given.number b xs no_account)

balances_from : (L : ℕ) (from : Board.Board) (given : Opening) (xs : List Single) → OfRun L from → BalancesFrom given xs from
balances_from L from given xs r =
    subst (BalancesFrom given xs) (sym r.is)
    (λ opens still p has. block_balances L r.size r.calls given xs (record { opens = opens; still = still }) p has)

slot_away : (link p : ℕ) → link ≢ suc p → slot_by link ≢ some p
slot_away zero p ne e = absurd (true≢false (ap is_none e))
slot_away (suc q) p ne e = ne (ap (λ (o : Option ℕ). slot_link o) e)

balances_read : (L : ℕ) (given : Opening) (st : Story) (last : Option ℕ) (e : Holding) (l : Life L given st last e) → st.closed ≡ false
    → (p : ℕ) → Has (reads e) p st.number → Balances (reads e) p (life_account l)
balances_read L given st last e l c p has =
    subst (λ (a : Account). Balances (reads e) p a) (sym (life_account_lem L given st last e l))
    (subst (λ (b : Board.Board). Balances b p (account_of given.number next o.xs no_account)) (sym o.is)
    (balances_from L o.from given o.xs o.run o.opens (ap (λ (t : Story). t.closed) (sym o.tale) ∙ c) p
    (subst (λ (n : ℕ). Has (play next o.xs) p n) (ap (λ (t : Story). t.number) o.tale)
    (subst (λ (b : Board.Board). Has b p st.number) o.is has))))
  where
    o : FromOpening L given st (reads e)
    o = life_opening L given st last e l

    next : Board.Board
    next = (step o.from (open! given)).next

pub chain_accounts_balance : ChainAccountsBalance
chain_accounts_balance L given st last e l c = record {
  has = has;
  out_of_slot =
      λ ne. b.out_of_slot (λ f. slot_away e.board.slot p ne (sym (slot_reads e) ∙ f)) ∙ ap (λ (d : ℕ). got a + a.lost + d) (sym (deficit_is e k p));
  in_slot = λ f. b.in_slot (slot_is e k p f) ∙ ap (λ (d : ℕ). got a + a.lost + d) (sym (left_is e k p f));
}
  where
    a : Account
    a = life_account l

    k : KnownHolding e
    k = (life_at L given st last e l).good

    p : ℕ
    p = place_in e st.number

    found : (q : ℕ) × (find (reads e) st.number ≡ open_at q)
    found = ((conserved L given st last e l).when_open c).0

    has : Has (reads e) (place_in e st.number) st.number
    has =
        let h = find_has (reads e) found.0 st.number found.1 in
        subst (λ (q : ℕ). Has (reads e) q st.number) (sym (has_where (reads e) found.0 st.number (tidy_reads e k) h)) h

    b : Balances (reads e) p a
    b = balances_read L given st last e l c p has

pub chain_never_above_due : ChainNeverAboveDue
chain_never_above_due L given st last e l c = go (ℕ_discrete e.board.slot (suc (place_in e st.number)))
  where
    b : BalancesIn e st.number (life_account l)
    b = chain_accounts_balance L given st last e l c

    go : Dec (e.board.slot ≡ suc (place_in e st.number)) → got (life_account l) ≤ due (life_account l)
    go (yes f) = omega (arith, b.in_slot f)
    go (no f) = omega (arith, b.out_of_slot f)

-- ---- its bytes are those of the records sent

sum_more : (l : List Board.Record) (r : Board.Record) → sum bytes_charged (l ++ (r ∷ [])) ≡ sum bytes_charged l + bytes_charged r
unfolding sum
sum_more [] r = omega arith
sum_more (x ∷ l) r = omega (arith, sum_more l r)

sum_none : (l : List Board.Record) → sum bytes_charged (l ++ []) ≡ sum bytes_charged l
sum_none l = ap (sum bytes_charged) (append-nil l)

bytes_answer : (n : ℕ) (s m : Holding) (r : Answer) (a : Account) (l : List Board.Record) → a.bytes ≡ sum bytes_charged l
    → (with_answer n s m r a).bytes ≡ sum bytes_charged (l ++ sent_for n r)
unfolding sent_from
bytes_answer n s m (gives code) a l e = e ∙ sym (sum_none l)
bytes_answer n s m (takes r) a l e = e ∙ sym (sum_none l)
bytes_answer n s m (bursts r) a l e = e ∙ sym (sum_none l)
bytes_answer n s m (sends r) a l e = go (eqb n r.block)
  where
    it : Board.Record
    it = record { number = r.number; bytes = r.bytes }

    go : (u : Bool) → (cond u (sent_from s m (place_in s n) r.bytes a) a).bytes ≡ sum bytes_charged (l ++ cond u (it ∷ []) [])
    go true = omega (arith, e, charge_is it, sum_more l it)
    go false = e ∙ sym (sum_none l)

-- a block that is not closed was not closed before
still_open : (st : Story) (xs : List Single) (said : List Answer) → (story st xs said).closed ≡ false → st.closed ≡ false
unfolding story
still_open st [] said c = c
still_open st (x ∷ xs) [] c = c
still_open st (x ∷ xs) (r ∷ said) c = go st.closed refl (still_open (tells st.closed st x r) xs said c)
  where
    go : (u : Bool) → st.closed ≡ u → (tells u st x r).closed ≡ false → st.closed ≡ false
    go true e f = f
    go false e f = e

open_now : (st : Story) (b : Board.Board) (xs : List Single) → (Runs.story st b xs).closed ≡ false → st.closed ≡ false
open_now st b xs still = still_open st xs (said_of b xs) (ap (λ (t : Story). t.closed) (story_said st b xs) ∙ still)

bytes_along : {s e : Holding} {said : List Answer} (st : Story) (xs : List Single) (c : Chain s (map one xs) said e) (a : Account)
    → (story st xs said).closed ≡ false → a.bytes ≡ sum bytes_charged st.sent
    → (account_along st.number xs c a).bytes ≡ sum bytes_charged (story st xs said).sent
unfolding account_along story
bytes_along st [] c a still e = e
bytes_along {s = s} st (x ∷ xs) (goes {m = m} {a = r} {told = said} d rest) a still e =
    subst (λ (u : Bool). (account_along (number_after st.number x r) xs rest (with_answer st.number s m r a)).bytes
    ≡ sum bytes_charged (story (tells u st x r) xs said).sent)
    (sym now)
    (bytes_along (goes_on st x r) xs rest (with_answer st.number s m r a)
    (subst (λ (u : Bool). (story (tells u st x r) xs said).closed ≡ false) now still) (bytes_answer st.number s m r a st.sent e))
  where
    now : st.closed ≡ false
    now = still_open st (x ∷ xs) (r ∷ said) still

pub chain_bytes_sent : ChainBytesSent
unfolding sum
chain_bytes_sent L given st last e l c =
    bytes_along (begins given.number) l.xs l.row.singles no_account (ap (λ (t : Story). t.closed) l.told! ∙ c) refl
    ∙ ap (λ (t : Story). sum bytes_charged t.sent) l.told!

-- ---- its credit is that of its slots

abbrev CreditIs : ℕ → Account → Type 0
CreditIs credit a = a.credit ≡ a.slots * credit

credit_call : (credit n : ℕ) (b : Board.Board) (o : Out) (a : Account) → credit_of b.largest (share_of b n) ≡ credit → CreditIs credit a
    → CreditIs credit (with_call n b o a)
unfolding added
credit_call credit n b (refused code) a e h = h
credit_call credit n b done a e h = h
credit_call credit n b (taken r) a e h = h
credit_call credit n b (sent z) a e h = go (eqb n (at b z.place).number)
  where
    given : ℕ
    given = credit_of b.largest (share_of b n)

    gave : (began : Bool) → a.credit + cond began given 0 ≡ (a.slots + one_if began) * credit
    gave true = omega (arith, e, h, add-mul a.slots 1 credit, one-mul credit)
    gave false = omega (arith, h, add-mul a.slots 0 credit, zero-mul credit)

    go : (own : Bool) → CreditIs credit (cond own (added given z a) a)
    go true = gave z.began
    go false = h

credit_along : (L share : ℕ) (st : Story) (b : Board.Board) (p : ℕ) (xs : List Single) (a : Account) → Tidy b → b.largest ≡ L → KeepsPlace share st b p
    → (Runs.story st b xs).closed ≡ false → CreditIs (credit_of L share) a → CreditIs (credit_of L share) (account_of st.number b xs a)
unfolding account_of Runs.story
credit_along L share st b p [] a g size seat still h = h
credit_along L share st b p (x ∷ xs) a g size seat still h =
    credit_along L share (goes_on st x (answer b x)) (step b x).next p xs (with_call st.number b (step b x).out a) (tidy_step b x g)
    (size_step b x ∙ size)
    (subst (λ (u : Bool). KeepsPlace share (tells u st x (answer b x)) (step b x).next p) now (seat_step share st b p x g seat))
    (subst (λ (u : Bool). (Runs.story (tells u st x (answer b x)) (step b x).next xs).closed ≡ false) now still)
    (credit_call (credit_of L share) st.number b (step b x).out a
    (ap₂ credit_of size (has_share b p st.number g (seat now).0 ∙ (seat now).1)) h)
  where
    now : st.closed ≡ false
    now = open_now st b (x ∷ xs) still

fresh_size : (L : ℕ) → (fresh L).largest ≡ L
unfolding fresh
fresh_size L = refl

pub chain_credit_of_slots : ChainCreditOfSlots
chain_credit_of_slots L given st last e l c =
    subst (CreditIs (credit_of L given.share)) (sym (life_account_lem L given st last e l))
    (credit_along L given.share (begins given.number) next w.0 o.xs no_account (tidy_step o.from (open! given) o.tidy) size
    (λ _. (w.1, ap (λ (x : Place). x.share) w.2)) (ap (λ (t : Story). t.closed) (sym o.tale) ∙ c) (sym (zero-mul (credit_of L given.share))))
  where
    o : FromOpening L given st (reads e)
    o = life_opening L given st last e l

    next : Board.Board
    next = (step o.from (open! given)).next

    w : (p : ℕ) × (Has next p given.number) × (at next p ≡ opened given)
    w = opened_by_lem o.from o.tidy given o.opens

    size : next.largest ≡ L
    size =
        size_step o.from (open! given) ∙ ap (λ (b : Board.Board). b.largest) o.run.is ∙ size_play (fresh L) o.run.calls ∙ fresh_size L

-- ---- its slots are those that the answers tell

and_false : (t : Bool) → t && false ≡ false
and_false true = refl
and_false false = refl

and_true : (t : Bool) → t && true ≡ t
and_true true = refl
and_true false = refl

none_begins : (a : Account) (t : Bool) → a.slots ≡ a.slots + one_if (t && false)
none_begins a t = omega (arith, ap one_if (and_false t))

abbrev SlotTold : ℕ → Board.Board → Account → Single → Turn → Type 0
SlotTold n b a x u = (with_call n b u.out a).slots ≡ a.slots + one_if (is_none b.slot && is_for n (told b u.out))

begins_call : (n : ℕ) (b : Board.Board) (a : Account) → Tidy b → (x : Single) → SlotTold n b a x (step b x)
unfolding added
begins_call n b a g = other_cases b (SlotTold n b a) (record {
  refused = λ x code r. none_begins a (is_none b.slot);
  opens = λ o c. none_begins a (is_none b.slot);
  renames = λ old new c. none_begins a (is_none b.slot);
  closes = λ q c. none_begins a (is_none b.slot);
  takes = λ q r c. none_begins a (is_none b.slot);
}) (serves (serve b).out refl)
  where
    serves : (o : Out) → (serve b).out ≡ o → (with_call n b o a).slots ≡ a.slots + one_if (is_none b.slot && is_for n (told b o))
    serves (refused code) e = none_begins a (is_none b.slot)
    serves done e = none_begins a (is_none b.slot)
    serves (taken r) e = none_begins a (is_none b.slot)
    serves (sent z) e = go (eqb n (at b z.place).number)
      where
        go : (own : Bool) → (cond own (added (credit_of b.largest (share_of b n)) z a) a).slots ≡ a.slots + one_if (is_none b.slot && own)
        go true = ap (λ (t : Bool). a.slots + one_if t) ((sends_tell b g z e).began ∙ sym (and_true (is_none b.slot)))
        go false = none_begins a (is_none b.slot)

begins_ever : (n : ℕ) (b : Board.Board) (x : Single) → Tidy b → Runs.begins_in 0 (2 ^ 62) n b x ≡ is_none b.slot && is_for n (answer b x)
begins_ever n b x g =
    ap₂ (λ (low high : Bool). (is_none b.slot && is_for n (answer b x)) && low && high)
    (leb_yes 0 (clock_of (answer b x)) (omega arith)) (leb_yes (suc (clock_of (answer b x))) (2 ^ 62) (answer_in_time b g x))
    ∙ within (is_none b.slot && is_for n (answer b x))
  where
    within : (t : Bool) → t && true && true ≡ t
    within true = refl
    within false = refl

slots_along : (st : Story) (b : Board.Board) (xs : List Single) (a : Account) → Tidy b → (Runs.story st b xs).closed ≡ false
    → (account_of st.number b xs a).slots ≡ a.slots + Runs.slots_in 0 (2 ^ 62) st.number b xs
unfolding account_of Runs.story Runs.slots_in
slots_along st b [] a g still = omega arith
slots_along st b (x ∷ xs) a g still =
    slots_along (goes_on st x r) (step b x).next xs (with_call st.number b (step b x).out a) (tidy_step b x g) goes!
    ∙ omega (arith, begins_call st.number b a g x, ap one_if (begins_ever st.number b x g), ap (λ (t : Bool). cond t 0 later) shut)
  where
    r : Answer
    r = answer b x

    later : ℕ
    later = Runs.slots_in 0 (2 ^ 62) (number_after st.number x r) (step b x).next xs

    goes! : (Runs.story (goes_on st x r) (step b x).next xs).closed ≡ false
    goes! = subst (λ (u : Bool). (Runs.story (tells u st x r) (step b x).next xs).closed ≡ false) (open_now st b (x ∷ xs) still) still

    shut : closes st.number x r ≡ false
    shut = open_now (goes_on st x r) (step b x).next xs goes!

pub chain_slots_told : ChainSlotsTold
unfolding last_slot story
chain_slots_told L given st last e l c =
    ap (λ (a : Account). a.slots) (account_along_lem n xs l.row.singles no_account h.good)
    ∙ slots_along (begins n) b xs no_account (at_tidy L l.opening h) still
    ∙ zero-add (Runs.slots_in 0 (2 ^ 62) n b xs)
    ∙ sym (slots_said 0 (2 ^ 62) n l.first b xs (at_tidy L l.opening h) (life_last L given (begins n) l.first l.opening newborn))
    ∙ ap (slots_in 0 (2 ^ 62) n l.first xs) (sym said!)
  where
    n : ℕ
    n = given.number

    xs : List Single
    xs = l.xs

    b : Board.Board
    b = reads l.opening

    h : At L l.opening
    h = opened_at_lem L given l.first l.opening l.opened

    said! : l.said ≡ said_of b xs
    said! = (along xs h.good l.row.singles).answers

    still : (Runs.story (begins n) b xs).closed ≡ false
    still =
        ap (λ (t : Story). t.closed) (sym (story_said (begins n) b xs) ∙ ap (story (begins n) xs) (sym said!) ∙ l.told!) ∙ c

    -- the same block, with nothing called since its opening
    newborn : Life L given (begins n) l.first l.opening
    newborn = record {
      first = l.first;
      opening = l.opening;
      opened = l.opened;
      cs = [];
      told = [];
      xs = [];
      said = [];
      row = record { chain = stops; spelt = over; singles = stops };
      latest = refl;
      told! = refl;
    }
