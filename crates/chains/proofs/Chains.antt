-- A chain of public calls from a done making is a run of the rules: its boards are the run's, and so are its answers.
use mathlib.Core.Path.{◌≡◌, refl, sym, ap, ap₂, subst, ◌∙◌}
use mathlib.Core.Bool.{false, cond, ◌&&◌, true≢false}
use mathlib.Core.Logic.{◌⊎◌, inl, inr}
use mathlib.Core.List.{List, [], ◌∷◌}
use Prim.Native.Nat.{ℕ, ◌≤◌}
use native.Mathlib.Omega.{arith}
use lib.Dec.{eqb}
use lib.ListN.{length}
use Rattle.base.proofs.Numbers.{eqb_no}
use Rattle.rules.specs.Board
use Rattle.rules.specs.Board.{fresh}
use Rattle.rules.specs.Calls.{Single, Call, burst!, Answer, told, done! }
use Rattle.rules.specs.Runs.{is_serve, runs}
use Rattle.board.specs.declared.Board as struct
use Rattle.board.specs.Reading.{view}
use Rattle.rules.specs.Choice.{Out, refused, done, taken, sent, Turn, send, serve}
use Rattle.rules.specs.Burst.{burst}
use Rattle.rules.specs.Calls.{open!, rename!, close!, record!, serve!, step, gives, takes, code_of}
use Rattle.rules.proofs.Tidy.{Tidy}
use Rattle.rules.proofs.Cases.{refusal_not0, call_cases}
use Rattle.rules.proofs.Refusals.{ServeOut, serve_codes}
use Rattle.rules.specs.Runs.{row}
use Rattle.rules.specs.Promises.{InRange}
use Rattle.rules.proofs.Shape.{Shape}
use Rattle.rules.proofs.Promises.{run_is_row}
use Rattle.board.proofs.Sound.{fit_view}
use Rattle.board.specs.Leaving.{Reply, Known, Returned, returned, ruled}
use Rattle.calls.specs.Promises.{made}
use Rattle.calls.specs.Contract.{Served, served_by, good_serve, BurstOutcome, burst_now, good_burst}
use Rattle.board.specs.Memory.{Holding}
use Rattle.chains.specs.Chains.{is_record, reply_tells, served_tells, burst_tells, by_reply, by_serve, by_burst, Chain, stops, goes, Made, answers_of}
use Rattle.chains.specs.Demands.{reads, KnownHolding, CallAgrees, IsRun, ChainIsRun, ChainOfRun}
use Rattle.board.proofs.Next.{ReturnsTurn, call_follows}
use Rattle.calls.proofs.Making.{StartsBy, made_starts}
use Rattle.calls.proofs.Calling
use Rattle.calls.proofs.Calling.{called_known}
use Rattle.calls.proofs.Promises

-- ---- what a reply tells is what the rules tell

abbrev Tells : Board.Board → Single → Turn → Type 0
Tells m x t = is_serve x ≡ false → (r : Reply) → r.code ≡ code_of (told m t.out) → reply_tells x r ≡ told m t.out

reply_told : (m : Board.Board) → Tidy m → (x : Single) → Tells m x (step m x)
unfolding send
reply_told m t = call_cases m t (Tells m) (record {
  refused = λ x code n e r c. rw (c, refusal_not0 code n) (no_record x code);
  opens = λ o can e r c. rw c;
  renames = λ p old new can e r c. rw c;
  closes = λ p n can e r c. rw c;
  takes = λ p n x can e r c. rw c;
  goes_on = λ p on e r c. absurd (true≢false e);
  begins = λ r t p on q e reply c. absurd (true≢false e);
})
  where
    no_record : (x : Single) (code : ℕ) → cond (is_record x && false) (takes (record { code = 0 })) (gives code) ≡ gives code
    no_record (open! o) code = refl
    no_record (rename! old new) code = refl
    no_record (close! n) code = refl
    no_record (record! n r) code = refl
    no_record serve! code = refl

served_told : (b : struct.Board) (m : Board.Board) → served_tells (served_by b (told m (serve m).out) (serve m).next) ≡ told m (serve m).out
served_told b m = go (serve m).out (serve_codes m)
  where
    refusal : (code : ℕ) → (code ≡ 1) ⊎ (code ≡ 11) → eqb code 0 ≡ false
    refusal code (inl e) = eqb_no code 0 (λ z. omega arith)
    refusal code (inr e) = eqb_no code 0 (λ z. omega arith)

    go : (o : Out) → ServeOut o → served_tells (served_by b (told m o) (serve m).next) ≡ told m o
    go (refused code) e = rw (refusal code e)
    go done e = absurd e
    go (taken a) e = absurd e
    go (sent s) e = refl

burst_told : (b : struct.Board) (ids lens : List ℕ) (bytes : ℕ) (list : List ℕ)
    → burst_tells (good_burst b ids lens bytes list).answer ≡ (done! (view b ids lens) (burst! bytes list)).answer
unfolding good_burst
burst_told b ids lens bytes list = refl

good_serve_lem : (b : struct.Board) (ids lens : List ℕ)
    → good_serve b ids lens ≡ served_by b (told (view b ids lens) (serve (view b ids lens)).out) (serve (view b ids lens)).next
unfolding good_serve
good_serve_lem b ids lens = refl

serve_step : (m : Board.Board) → told m (serve m).out ≡ told m (step m serve!).out
unfolding step
serve_step m = refl

serve_next : (m : Board.Board) → (serve m).next ≡ (step m serve!).next
unfolding step
serve_next m = refl

-- ---- one call of a chain

abbrev KnownReturned : Returned Reply → Type 0
KnownReturned w = Known w.reply.board w.ids w.lens

pub did_agrees : CallAgrees
did_agrees s m c a k (by_reply x e r ids lens p) = record {
  good = subst (λ (w : Returned Reply). Known w.reply.board w.ids w.lens) (sym q) f.good;
  after = ap (λ (w : Returned Reply). view w.reply.board w.ids w.lens) q ∙ f.reads;
  told! =
      ap (λ (w : Returned Reply). reply_tells x w.reply) q
      ∙ reply_told (reads s) (fit_view b s.ids s.lens k.sound).tidy x e (ruled b s.ids s.lens x).reply f.code;
}
  where
    b : struct.Board
    b = s.board

    q : returned r ids lens ≡ ruled b s.ids s.lens x
    q = p ∙ sym (called_known b s.ids s.lens k x)

    f : ReturnsTurn b s.ids s.lens (ruled b s.ids s.lens x) (step (reads s) x)
    f = call_follows b s.ids s.lens k x e
did_agrees s m c a k (by_serve r ids lens p) = record {
  good = subst (λ (w : Returned Served). Known w.reply.board w.ids w.lens) (sym q) w!.0;
  after = ap (λ (w : Returned Served). view w.reply.board w.ids w.lens) q ∙ w!.1 ∙ serve_next (reads s);
  told! =
      ap (λ (w : Returned Served). served_tells w.reply) q ∙ ap served_tells (good_serve_lem b s.ids s.lens) ∙ served_told b (reads s)
      ∙ serve_step (reads s);
}
  where
    b : struct.Board
    b = s.board

    q : returned r ids lens ≡ returned (good_serve b s.ids s.lens) s.ids s.lens
    q = p ∙ sym (Calling.serve_called b s.ids s.lens k (good_serve b s.ids s.lens) refl)

    w! : Known (good_serve b s.ids s.lens).board s.ids s.lens
        × (view (good_serve b s.ids s.lens).board s.ids s.lens ≡ (serve (reads s)).next)
    w! = Promises.serve_known b s.ids s.lens k
did_agrees s m c a k (by_burst bytes list r list' ids lens p) = record {
  good = subst (λ (w : Returned BurstOutcome). Known w.reply.answer.board w.ids w.lens) (sym q) w!.0;
  after = ap (λ (w : Returned BurstOutcome). view w.reply.answer.board w.ids w.lens) q ∙ w!.1;
  told! = ap (λ (w : Returned BurstOutcome). burst_tells w.reply.answer) q ∙ burst_told b s.ids s.lens bytes list;
}
  where
    b : struct.Board
    b = s.board

    good : BurstOutcome
    good = good_burst b s.ids s.lens bytes list

    q : returned (burst_now r list') ids lens ≡ returned good s.ids s.lens
    q = p ∙ sym (Calling.burst_called b s.ids s.lens k bytes list good refl)

    w! : Known good.answer.board s.ids s.lens × (view good.answer.board s.ids s.lens ≡ (burst (reads s) bytes (length list)).next)
    w! = Promises.burst_known b s.ids s.lens bytes list k

-- ---- a chain

none_run : (L : ℕ) → (runs (fresh L) []).largest ≡ L
unfolding runs fresh
none_run L = refl

pub chain_from : {s e : Holding} {cs : List Call} {answers : List Answer} → KnownHolding s → Chain s cs answers e
    → KnownHolding e × (reads e ≡ runs (reads s) cs) × (answers ≡ answers_of (reads s) cs)
unfolding runs answers_of
chain_from k stops = (k, refl, refl)
chain_from {s = s} {e = e} k (goes {m = m} {c = c} {a = a} {cs = cs} d rest) =
    let g = did_agrees s m c a k d in
    let t = chain_from g.good rest in (
      t.0,
      t.1 ∙ ap (λ (b : Board.Board). runs b cs) g.after,
      ap₂ (λ (x : Answer) (xs : List Answer). x ∷ xs) g.told! (t.2 ∙ ap (λ (b : Board.Board). answers_of b cs) g.after),
    )

-- THE DEMANDS OF THE REAL CALLS: from a done making, what the calls leave and answer is what the rules' run leaves and answers
pub chain_is_run : ChainIsRun
chain_is_run L s e cs answers made! chain =
    record { good = t.0; board = t.1 ∙ ap (λ (b : Board.Board). runs b cs) fresh!; answer = t.2 ∙ ap (λ (b : Board.Board). answers_of b cs) fresh! }
  where
    start : StartsBy (made made!.ids made!.lens L) L
    start = made_starts made!.ids made!.lens L (ap (λ (w : Returned Reply). w.reply.code) (sym made!.promise) ∙ made!.done)

    held : (w : Returned Reply) → returned made!.reply s.ids s.lens ≡ w → KnownReturned w → KnownHolding s
    held w q k = rw made!.board (subst (λ (z : Returned Reply). KnownReturned z) (sym q) k)

    known : KnownHolding s
    known = held (made made!.ids made!.lens L) made!.promise start.good

    fresh! : reads s ≡ fresh L
    fresh! =
        ap (λ (b : struct.Board). view b s.ids s.lens) made!.board
        ∙ ap (λ (w : Returned Reply). view w.reply.board w.ids w.lens) made!.promise ∙ start.reads

    t : KnownHolding e × (reads e ≡ runs (reads s) cs) × (answers ≡ answers_of (reads s) cs)
    t = chain_from known chain

-- a making that is done has its L in range
in_range : (L : ℕ) (s : Holding) → Made L s → InRange L
in_range L s made! = record { low = subst (λ (n : ℕ). 64 ≤ n) size shape.least; high = subst (λ (n : ℕ). n ≤ 2048) size shape.most }
  where
    t : IsRun L [] [] s
    t = chain_is_run L s s [] [] made! stops

    shape : Shape (reads s).largest (reads s).clock (reads s).places (reads s).orders (reads s).held
    shape = (fit_view s.board s.ids s.lens t.good.sound).tidy.shape

    size : (reads s).largest ≡ L
    size = ap (λ (b : Board.Board). b.largest) t.board ∙ none_run L

-- so what a chain holds reads as a board of a run, and every promise of the rules' page holds of it and of what is answered next
pub chain_of_run : ChainOfRun
chain_of_run L s e cs answers made! chain =
    record { size = in_range L s made!; calls = row (fresh L) cs; is = (chain_is_run L s e cs answers made! chain).board ∙ run_is_row (fresh L) cs }
