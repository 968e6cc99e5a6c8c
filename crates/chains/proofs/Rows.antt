-- A chain of single calls is a row of the rules: its words over answers are the rules' words over boards; and a chain with bursts has its row.
use mathlib.Core.Path.{◌≡◌, refl, sym, ap, ap₂, subst, ◌∙◌}
use mathlib.Core.List.{List, [], ◌∷◌, ◌++◌, map}
use Prim.Native.Nat.{ℕ, zero, suc, ◌+◌, ◌≤◌}
use native.Mathlib.Omega.{arith}
use lib.ListN.{length, drop, length-map}
use Rattle.base.specs.Sums.{sum}
use Rattle.base.proofs.Numbers.{eqb_no}
use Rattle.units.specs.Credit.{charged}
use Rattle.rules.specs.Board
use Rattle.rules.specs.Board.{fresh}
use Rattle.rules.specs.Choice.{Out, refused, done, taken, sent}
use Rattle.rules.specs.Burst.{Burst, burst}
use Rattle.rules.specs.Calls.{Single, serve!, step, Call, one, burst!, Sent, Answer, gives, takes, sends, bursts, told, code_of}
use Rattle.rules.specs.Runs
use Rattle.rules.specs.Runs.{play, answer, runs, row, record_of, records_in, Story, tells, number_after}
use Rattle.rules.specs.Promises.{OfRun, serves, IsServes}
use Rattle.rules.proofs.Tidy.{Tidy}
use Rattle.rules.proofs.Promises.{play_join, run_is_row, burst_is_serves}
use Rattle.board.proofs.Sound.{sound_one}
use Rattle.board.specs.Leaving.{Returned, returned}
use Rattle.calls.specs.Contract.{BurstReply, BurstOutcome, burst_now, good_burst, called_serve, called_burst}
use Rattle.calls.proofs.Calling
use Rattle.board.specs.Memory.{Holding}
use Rattle.chains.specs.Chains.{served_tells, burst_tells, Did, by_reply, by_serve, by_burst, Chain, stops, goes, Made, answers_of}
use Rattle.chains.specs.Demands.{reads, bytes_of, bytes_in, slot_bytes, NotSpent, Unsent, story, SpeltOut, over, single, as_serves, Row, BurstIs}
use Rattle.chains.specs.Demands.{KnownHolding}
use Rattle.chains.specs.Demands.{Agrees}
use Rattle.chains.proofs.Values.{tidy_reads}
use Rattle.chains.proofs.Refusals.{serve_tables}
use Rattle.chains.proofs.Chains.{did_agrees, chain_from, chain_is_run, chain_of_run}

-- ---- lists

pub map_join : {A B : Type 0} (f : A → B) (xs ys : List A) → map f (xs ++ ys) ≡ map f xs ++ map f ys
map_join f [] ys = refl
map_join f (x ∷ xs) ys = ap (λ r. f x ∷ r) (map_join f xs ys)

-- ---- a holding of a chain

pub record At (L : ℕ) (e : Holding) : Type 0 where
  pub good : KnownHolding e
  pub run : OfRun L (reads e)

pub at_made : (L : ℕ) (s : Holding) → Made L s → At L s
at_made L s m = record { good = (chain_is_run L s s [] [] m stops).good; run = chain_of_run L s s [] [] m stops }

pub at_tidy : (L : ℕ) (e : Holding) → At L e → Tidy (reads e)
at_tidy L e h = tidy_reads e h.good

pub at_on : (L : ℕ) {s e : Holding} {cs : List Call} {told : List Answer} → At L s → Chain s cs told e → At L e
at_on L {s = s} {e = e} {cs = cs} {told = told'} h c = record {
  good = t.0;
  run =
      record {
        size = h.run.size;
        calls = h.run.calls ++ row (reads s) cs;
        is =
            t.1 ∙ run_is_row (reads s) cs ∙ ap (λ (b : Board.Board). play b (row (reads s) cs)) h.run.is
            ∙ play_join (fresh L) h.run.calls (row (reads s) cs);
      };
}
  where
    t : KnownHolding e × (reads e ≡ runs (reads s) cs) × (told' ≡ answers_of (reads s) cs)
    t = chain_from h.good c

pub at_did : (L : ℕ) {f g : Holding} {c : Call} {a : Answer} → At L f → Did f c a g → At L g
at_did L h d = at_on L h (goes d stops)

-- ---- what single calls answer

unfoldable pub said_of : Board.Board → List Single → List Answer
said_of b [] = []
said_of b (x ∷ xs) = answer b x ∷ said_of (step b x).next xs

singles_run : (b : Board.Board) (xs : List Single) → runs b (map one xs) ≡ play b xs
unfolding runs play
singles_run b [] = refl
singles_run b (x ∷ xs) = singles_run (step b x).next xs

singles_said : (b : Board.Board) (xs : List Single) → answers_of b (map one xs) ≡ said_of b xs
unfolding answers_of said_of
singles_said b [] = refl
singles_said b (x ∷ xs) = ap (λ r. answer b x ∷ r) (singles_said (step b x).next xs)

-- a chain of single calls, as the rules tell it
pub record Along (b : Board.Board) (xs : List Single) (said : List Answer) (e : Holding) : Type 0 where
  pub board : reads e ≡ play b xs
  pub answers : said ≡ said_of b xs

pub along : {s e : Holding} (xs : List Single) {said : List Answer} → KnownHolding s → Chain s (map one xs) said e → Along (reads s) xs said e
along {s = s} xs k c = let t = chain_from k c in record { board = t.1 ∙ singles_run (reads s) xs; answers = t.2 ∙ singles_said (reads s) xs }

-- ---- the words over answers are those over boards

bytes_single : (b : Board.Board) (o : Out) → bytes_of (told b o) ≡ Runs.bytes_of (told b o)
bytes_single b (refused code) = refl
bytes_single b done = refl
bytes_single b (taken a) = refl
bytes_single b (sent s) = refl

pub bytes_said : (b : Board.Board) (xs : List Single) → bytes_in (said_of b xs) ≡ Runs.bytes_in b xs
unfolding bytes_in Runs.bytes_in said_of
bytes_said b [] = refl
bytes_said b (x ∷ xs) = ap₂ (λ (m n : ℕ). m + n) (bytes_single b (step b x).out) (bytes_said (step b x).next xs)

pub slot_bytes_said : (t : ℕ) (b : Board.Board) (xs : List Single) → slot_bytes t (said_of b xs) ≡ Runs.slot_bytes t b xs
unfolding slot_bytes Runs.slot_bytes said_of
slot_bytes_said t b [] = refl
slot_bytes_said t b (x ∷ xs) = ap (λ (n : ℕ). Runs.bytes_at t (answer b x) + n) (slot_bytes_said t (step b x).next xs)

pub story_said : (st : Story) (b : Board.Board) (xs : List Single) → story st xs (said_of b xs) ≡ Runs.story st b xs
unfolding story Runs.story said_of
story_said st b [] = refl
story_said st b (x ∷ xs) = story_said (tells st.closed st x (answer b x)) (step b x).next xs

pub unsent_said : (n : ℕ) (b : Board.Board) (xs : List Single) → Unsent n xs (said_of b xs) → Runs.Unsent n b xs
unfolding Unsent Runs.Unsent said_of
unsent_said n b [] u = tt
unsent_said n b (x ∷ xs) u = (u.0, unsent_said (number_after n x (answer b x)) (step b x).next xs u.1)

pub spent_said : (b : Board.Board) (xs : List Single) → NotSpent (said_of b xs) → Runs.NotSpent b xs
unfolding NotSpent Runs.NotSpent said_of
spent_said b [] u = tt
spent_said b (x ∷ xs) u = (eqb_no (code_of (answer b x)) 11 u.0, spent_said (step b x).next xs u.1)

-- ---- a burst's serving calls

bytes_sent_lem : (out : List Sent) (said : List Answer) → bytes_in (map sends out ++ said) ≡ sum (λ (s : Sent). charged s.bytes) out + bytes_in said
unfolding bytes_in sum
bytes_sent_lem [] said = omega arith
bytes_sent_lem (s ∷ rest) said = omega (arith, bytes_sent_lem rest said)

pub spelt_bytes : {cs : List Call} {told said : List Answer} {xs : List Single} → SpeltOut cs told xs said → bytes_in told ≡ bytes_in said
unfolding bytes_in
spelt_bytes over = refl
spelt_bytes (single x a rest) = ap (λ (n : ℕ). bytes_of a + n) (spelt_bytes rest)
spelt_bytes (as_serves {said = said} bytes list r out n e rest) = omega (arith, e, spelt_bytes rest, bytes_sent_lem out said)

-- what each of n serving calls sent, if all of them sent
record AllSend (b : Board.Board) (n : ℕ) : Type 0 where
  out : List Sent
  said : said_of b (serves n) ≡ map sends out
  count : length out ≡ n
  bytes : sum (λ (s : Sent). charged s.bytes) out ≡ Runs.bytes_in b (serves n)
  numbers : map (λ (s : Sent). s.number) out ≡ map (λ (x : Board.Record). x.number) (records_in b (serves n))

record_most : (a : Answer) (l : List Board.Record) → length (record_of a ++ l) ≤ suc (length l)
record_most (gives code) l = omega arith
record_most (takes a) l = omega arith
record_most (sends s) l = omega arith
record_most (bursts r) l = omega arith

records_most : (n : ℕ) (b : Board.Board) → length (records_in b (serves n)) ≤ n
unfolding records_in
records_most zero b = omega arith
records_most (suc n) b = omega (arith, records_most n (step b serve!).next, record_most (answer b serve!) (records_in (step b serve!).next (serves n)))

one_more : (n : ℕ) (a : Answer) (l : List Board.Record) → length l ≤ n → length (record_of a ++ l) ≡ suc n → (s : Sent) × (a ≡ sends s) × (length l ≡ n)
one_more n (gives code) l h e = absurd (omega arith)
one_more n (takes a) l h e = absurd (omega arith)
one_more n (sends s) l h e = (s, refl, omega arith)
one_more n (bursts r) l h e = absurd (omega arith)

all_send : (n : ℕ) (b : Board.Board) → length (records_in b (serves n)) ≡ n → AllSend b n
unfolding records_in said_of Runs.bytes_in sum
all_send zero b e = record { out = []; said = refl; count = refl; bytes = refl; numbers = refl }
all_send (suc n) b e =
    let nb = (step b serve!).next in
    let m = one_more n (answer b serve!) (records_in nb (serves n)) (records_most n nb) e in
    let t = all_send n nb m.2 in
    record {
      out = m.0 ∷ t.out;
      said = ap₂ (λ (x : Answer) (xs : List Answer). x ∷ xs) m.1 t.said;
      count = ap suc t.count;
      bytes = ap₂ (λ (i j : ℕ). i + j) (sym (ap Runs.bytes_of m.1)) t.bytes;
      numbers =
          ap (λ (ns : List ℕ). m.0.number ∷ ns) t.numbers
          ∙ ap (λ (a : Answer). map (λ (x : Board.Record). x.number) (record_of a ++ records_in nb (serves n))) (sym m.1);
    }

-- single serving calls can follow any holding, and change no table
record Serving (s : Holding) (n : ℕ) : Type 0 where
  said : List Answer
  end : Holding
  chain : Chain s (map one (serves n)) said end
  ids : end.ids ≡ s.ids
  lens : end.lens ≡ s.lens

serving : (n : ℕ) (s : Holding) → Serving s n
serving zero s = record { said = []; end = s; chain = stops; ids = refl; lens = refl }
serving (suc n) s =
    let w = called_serve s.board s.ids s.lens in
    let t = serving n (record { board = w.reply.board; ids = w.ids; lens = w.lens }) in
    let kept = serve_tables s.board s.ids s.lens in
    record {
      said = served_tells w.reply ∷ t.said;
      end = t.end;
      chain = goes (by_serve w.reply w.ids w.lens refl) t.chain;
      ids = t.ids ∙ kept.0;
      lens = t.lens ∙ kept.1;
    }

pub burst_is : (m : Holding) (bytes : ℕ) (list : List ℕ) (r : BurstReply) (list' ids lens : List ℕ) → KnownHolding m
    → returned (burst_now r list') ids lens ≡ called_burst m.board m.ids m.lens bytes list → BurstIs m list r list' ids lens
unfolding good_burst
burst_is m bytes list r list' ids lens k p = record {
  sent = t.out;
  serving =
      subst (λ (n : ℕ). Chain m (map one (serves n)) (map sends t.out) g) (sym t.count)
      (subst (λ (told : List Answer). Chain m (map one (serves B.count)) told g) (a.answers ∙ t.said)
      (subst (λ (e : Holding). Chain m (map one (serves B.count)) u.said e) same u.chain));
  count = t.count ∙ sym (ap (λ (w : Returned BurstOutcome). w.reply.answer.count) q);
  bytes = t.bytes ∙ sym i.total ∙ sym (ap (λ (w : Returned BurstOutcome). w.reply.answer.bytes.0) q);
  numbers =
      ap (λ (w : Returned BurstOutcome). w.reply.list) q ∙ ap (λ (ns : List ℕ). ns ++ drop (length ns) list) (i.numbers ∙ sym t.numbers)
      ∙ ap (λ (n : ℕ). map (λ (s : Sent). s.number) t.out ++ drop n list) (length-map t.out (λ (s : Sent). s.number));
}
  where
    B : Burst
    B = burst (reads m) bytes (length list)

    good : BurstOutcome
    good = good_burst m.board m.ids m.lens bytes list

    q : returned (burst_now r list') ids lens ≡ returned good m.ids m.lens
    q = p ∙ sym (Calling.burst_called m.board m.ids m.lens k bytes list good refl)

    i : IsServes (reads m) bytes (length list) B
    i = burst_is_serves (reads m) bytes (length list)

    t : AllSend (reads m) B.count
    t = all_send B.count (reads m) i.each_sends

    g : Holding
    g = record { board = r.board; ids = ids; lens = lens }

    d : Agrees m (burst! bytes list) (burst_tells r) g
    d = did_agrees m g (burst! bytes list) (burst_tells r) k (by_burst bytes list r list' ids lens p)

    u : Serving m B.count
    u = serving B.count m

    a : Along (reads m) (serves B.count) u.said u.end
    a = along (serves B.count) k u.chain

    same : u.end ≡ g
    same =
        λ j. record {
          board = one! j;
          ids = (u.ids ∙ sym (ap (λ (w : Returned BurstOutcome). w.ids) q)) j;
          lens =
              (u.lens ∙ sym (ap (λ (w : Returned BurstOutcome). w.lens) q)) j;
        }
      where
        one! : u.end.board ≡ r.board
        one! =
            sound_one u.end.board r.board u.end.ids u.end.lens ids lens (chain_from k u.chain).0.sound d.good.sound
            (a.board ∙ sym i.next ∙ sym d.after)

-- ---- every chain has its row

pub chain_join : {s m e : Holding} {cs cs' : List Call} {told told' : List Answer} → Chain s cs told m → Chain m cs' told' e
    → Chain s (cs ++ cs') (told ++ told') e
chain_join stops c = c
chain_join (goes d rest) c = goes d (chain_join rest c)

abbrev SomeRow : Holding → List Call → List Answer → Holding → Type 0
SomeRow s cs told e = (xs : List Single) × (said : List Answer) × Row s cs told xs said e

row_single : {s m e : Holding} {a : Answer} {cs : List Call} {told : List Answer} (x : Single) → Did s (one x) a m → SomeRow m cs told e
    → SomeRow s (one x ∷ cs) (a ∷ told) e
row_single {a = a} x d (xs, said, r) = (x ∷ xs, a ∷ said, record { chain = goes d r.chain; spelt = single x a r.spelt; singles = goes d r.singles })

row_step : {s m e : Holding} {c : Call} {a : Answer} {cs : List Call} {told : List Answer} → KnownHolding s → Did s c a m → SomeRow m cs told e
    → SomeRow s (c ∷ cs) (a ∷ told) e
row_step k (by_reply x n r ids lens p) w = row_single x (by_reply x n r ids lens p) w
row_step k (by_serve r ids lens p) w = row_single serve! (by_serve r ids lens p) w
row_step {s = s} {e = e} k (by_burst bytes list r list' ids lens p) (xs, said, w) =
    let i = burst_is s bytes list r list' ids lens k p in (
      serves (length i.sent) ++ xs,
      map sends i.sent ++ said,
      record {
        chain = goes (by_burst bytes list r list' ids lens p) w.chain;
        spelt = as_serves bytes list r i.sent i.count i.bytes w.spelt;
        singles =
            subst (λ (cs : List Call). Chain s cs (map sends i.sent ++ said) e) (sym (map_join one (serves (length i.sent)) xs))
            (chain_join i.serving w.singles);
      },
    )

pub row_from : {s e : Holding} {cs : List Call} {told : List Answer} → KnownHolding s → Chain s cs told e → SomeRow s cs told e
row_from k stops = ([], [], record { chain = stops; spelt = over; singles = stops })
row_from {s = s} k (goes {m = m} {c = c} {a = a} d rest) = row_step k d (row_from (did_agrees s m c a k d).good rest)
