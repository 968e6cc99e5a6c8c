-- CHAINS of the public calls: each is given what the one before left. A step of a chain is known by its call's promise
-- alone.
use Rattle.std.specs.Prelude.{◌≡◌, Bool, true, false, cond, ◌&&◌, List, [], ◌∷◌, ℕ, eqb}
use Rattle.rules.specs.Board
use Rattle.rules.specs.Calls.{Single, open!, rename!, close!, record!, serve!, Call, one, burst!, Answer, gives, takes}
use Rattle.rules.specs.Calls.{sends, bursts, done! }
use Rattle.rules.specs.Runs.{is_serve, leaves}
use Rattle.board.specs.Memory.{Holding}
use Rattle.board.specs.Leaving.{Reply, returned}
use Rattle.calls.specs.Promises.{called, made}
use Rattle.calls.specs.Contract.{Served, BurstReply, burst_now, called_serve, called_burst}

-- ---- An answer's number and values, in the rules' words

abbrev pub is_record : Single → Bool
is_record (open! o) = false
is_record (rename! old new) = false
is_record (close! n) = false
is_record (record! n r) = true
is_record serve! = false

abbrev pub reply_tells : Single → Reply → Answer
reply_tells x r = cond (is_record x && eqb r.code 0) (takes (record { code = 0 })) (gives r.code)

abbrev pub served_tells : Served → Answer
served_tells r =
    cond (eqb r.code 0)
    (sends (record { block = r.block; number = r.number; bytes = r.length; clock = r.clock })) (gives r.code)

abbrev pub burst_tells : BurstReply → Answer
burst_tells r = bursts (record { count = r.count; total = r.bytes.0; code = r.code })

-- ---- A call of a chain: its promise holds of what it was given and of what it left

pub data Did (s : Holding) : Call → Answer → Holding → Type 0 where
  by_reply : (x : Single) → is_serve x ≡ false → (r : Reply) (ids lens : List ℕ)
      → returned r ids lens ≡ called s.board s.ids s.lens x
      → Did s (one x) (reply_tells x r) (record { board = r.board; ids = ids; lens = lens })
  by_serve : (r : Served) (ids lens : List ℕ)
      → returned r ids lens ≡ called_serve s.board s.ids s.lens
      → Did s (one serve!) (served_tells r) (record { board = r.board; ids = ids; lens = lens })
  by_burst : (bytes : ℕ) (list : List ℕ) (r : BurstReply) (list' ids lens : List ℕ)
      → returned (burst_now r list') ids lens ≡ called_burst s.board s.ids s.lens bytes list
      → Did s (burst! bytes list) (burst_tells r) (record { board = r.board; ids = ids; lens = lens })

pub data Chain : Holding → List Call → List Answer → Holding → Type 0 where
  stops : {s : Holding} → Chain s [] [] s
  goes : {s m e : Holding} {c : Call} {a : Answer} {cs : List Call} {told : List Answer} → Did s c a m
      → Chain m cs told e → Chain s (c ∷ cs) (a ∷ told) e

-- it begins with a done making
pub record Made (L : ℕ) (s : Holding) : Type 0 where
  pub reply : Reply
  pub ids : List ℕ
  pub lens : List ℕ
  pub promise : returned reply s.ids s.lens ≡ made ids lens L
  pub done : reply.code ≡ 0
  pub board : s.board ≡ reply.board

-- ---- What the rules answer to a row of calls

unfoldable pub answers_of : Board.Board → List Call → List Answer
answers_of b [] = []
answers_of b (c ∷ cs) = (done! b c).answer ∷ answers_of (leaves b c) cs
