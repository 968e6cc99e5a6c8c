-- `events::act` meets its contract. Each kind of field by its law, done or refused. Assumes nothing.
use Rattle.std.specs.Prelude.{Ok, Err}
use Rattle.std.proofs.lemmas.Result.{err_from_is_err_and}
use Rattle.taking.proofs.Answers.{record_needs}
use Rattle.blocks.proofs.Answers.{close_needs}
use Rattle.serving.proofs.Known.{can_known}
use Rattle.events.proofs.Events.{open_acts, close_acts, rename_acts, record_acts, serve_acts}
use Rattle.events.proofs.act.Goals as goal

pub close_in-requires : goal.close_in-requires
close_in-requires c = close_needs _ _ _ c.requires.0

pub record_in-requires : goal.record_in-requires
record_in-requires c = record_needs _ _ _ c.requires.0

pub serve_within-requires : goal.serve_within-requires
serve_within-requires c = can_known _ _ _ c.requires.0

pub returns-in_ok-open_in-in-Open-clause-acted : goal.returns-in_ok-open_in-in-Open-clause-acted
returns-in_ok-open_in-in-Open-clause-acted c =
    let call = c.in_ok-open_in-in-Open.ensures in
    open_acts _ c.requires.0 _ _ _ _ c.in-Open.is call.opened call.rest

pub returns-in_err-open_in-in-Open-clause-acted : goal.returns-in_err-open_in-in-Open-clause-acted
returns-in_err-open_in-in-Open-clause-acted c =
    let call = c.in_err-open_in-in-Open.ensures in
    let e = err_from_is_err_and c.from_residual.result c.from_residual.ensures.1 in
    rw (e.1, e.2) (open_acts _ c.requires.0 _ _ _ _ c.in-Open.is call.opened call.rest)

pub returns-in_ok-close_in-in-Close-clause-acted : goal.returns-in_ok-close_in-in-Close-clause-acted
returns-in_ok-close_in-in-Close-clause-acted c =
    let call = c.in_ok-close_in-in-Close.ensures in
    close_acts _ c.requires.0 _ _ _ _ c.in-Close.is call.closed call.rest

pub returns-in_err-close_in-in-Close-clause-acted : goal.returns-in_err-close_in-in-Close-clause-acted
returns-in_err-close_in-in-Close-clause-acted c =
    let call = c.in_err-close_in-in-Close.ensures in
    let e = err_from_is_err_and c.from_residual-in_err-close_in-in-Close.result c.from_residual-in_err-close_in-in-Close.ensures.1 in
    rw (e.1, e.2) (close_acts _ c.requires.0 _ _ _ _ c.in-Close.is call.closed call.rest)

pub returns-in_ok-rename_in-in-Rename-clause-acted : goal.returns-in_ok-rename_in-in-Rename-clause-acted
returns-in_ok-rename_in-in-Rename-clause-acted c =
    let call = c.in_ok-rename_in-in-Rename.ensures in
    rename_acts _ c.requires.0 _ _ _ _ _ c.in-Rename.is call.renamed call.rest

pub returns-in_err-rename_in-in-Rename-clause-acted : goal.returns-in_err-rename_in-in-Rename-clause-acted
returns-in_err-rename_in-in-Rename-clause-acted c =
    let call = c.in_err-rename_in-in-Rename.ensures in
    let e = err_from_is_err_and c.from_residual-in_err-rename_in-in-Rename.result c.from_residual-in_err-rename_in-in-Rename.ensures.1 in
    rw (e.1, e.2) (rename_acts _ c.requires.0 _ _ _ _ _ c.in-Rename.is call.renamed call.rest)

pub returns-in_ok-record_in-in-Arrive-clause-acted : goal.returns-in_ok-record_in-in-Arrive-clause-acted
returns-in_ok-record_in-in-Arrive-clause-acted c =
    let call = c.in_ok-record_in-in-Arrive.ensures in
    record_acts _ c.requires.0 _ _ _ _ _ _ c.in-Arrive.is _ _ _ call.recorded call.rest

pub returns-in_err-record_in-in-Arrive-clause-acted : goal.returns-in_err-record_in-in-Arrive-clause-acted
returns-in_err-record_in-in-Arrive-clause-acted c =
    let call = c.in_err-record_in-in-Arrive.ensures in
    let e = err_from_is_err_and c.from_residual-in_err-record_in-in-Arrive.result c.from_residual-in_err-record_in-in-Arrive.ensures.1 in
    rw (e.1, e.2) (record_acts _ c.requires.0 _ _ _ _ _ _ c.in-Arrive.is _ _ _ call.recorded call.rest)

pub returns-in-Serve-clause-acted : goal.returns-in-Serve-clause-acted
returns-in-Serve-clause-acted c =
    let call = c.in_ok-served-in-Serve.ensures in
    serve_acts _ c.requires.0 _ (Ok c.in_ok-served-in-Serve.served) _ c.in-Serve.is call.served call.rest

pub returns-in_err-served-in-Serve-clause-acted : goal.returns-in_err-served-in-Serve-clause-acted
returns-in_err-served-in-Serve-clause-acted c =
    let call = c.in_err-served-in-Serve.ensures in
    let e = err_from_is_err_and c.from_residual-in_err-served-in-Serve.result c.from_residual-in_err-served-in-Serve.ensures.1 in
    rw (e.1, e.2) (serve_acts _ c.requires.0 _ (Err c.in_err-served-in-Serve.field-0.0) _ c.in-Serve.is call.served call.rest)
