-- Threads may share an open layer. The types that hold expressions are gone through one by one,
-- since a search that goes down through all of them runs out of steps.
use denote.Builtin.{u32, u64}
use denote.Param.Send.{IsSend, IsSync, sendable, recorded_send, recorded_sync, view_sync}
use Rattle.std.proofs.Crossing.{Vec-send, Vec-sync, Box-send, Box-sync, Arc-sync}
use Rattle.std.proofs.alloc.Global.TheSendSync as heap
use Rattle.std.proofs.option.Option.TheSendSync as option
use Rattle.rt_base.proofs.list.List.TheSendSync as list
use Rattle.ground_types.proofs.entries.Entry.TheSendSync as entry
use Rattle.ground_types.proofs.plan.Plan.TheSendSync as plan
use Rattle.ground_types.proofs.program.Domain.TheSendSync as domain
use Rattle.ground_types.proofs.program.Expr.TheLaws.TheKnot.{send-Expr, sync-Expr}
use Rattle.ground_types.proofs.program.Name.TheSendSync as name
use Rattle.ground_types.proofs.program.Rule.TheSendSync as rule
use Rattle.ground_types.specs.contracts.program.Expr as Expr
use Rattle.ground_types.specs.contracts.program.Program as Program
use Rattle.ground_types.specs.contracts.program.Unit as Unit'
use Rattle.ground_types.specs.contracts.program.UnitKind as UnitKind
use Rattle.event_store.proofs.ahead.Ahead.TheSendSync as ahead
use Rattle.event_store.proofs.store.EventStore.TheSendSync as store
use Rattle.layer_cache.proofs.cache.Cache.TheSendSync as cache
use Rattle.delay_revise.specs.contracts.reviser.Reviser as Reviser
use Rattle.delay_revise.specs.contracts.reviser.Reviser.TheInside as Inside

number_send : IsSend u32
number_send = search sendable

number_sync : IsSync u32
number_sync = search sendable

count_sync : IsSync u64
count_sync = search sendable

expr_send : IsSend Expr.the_row
expr_send =
    let inside = send-Expr (search sendable) Vec-send Box-send in
    recorded_send (Expr.the_field).row _ _ (Expr.the_type).to_one inside

expr_sync : IsSync Expr.the_row
expr_sync =
    let inside = sync-Expr (search sendable) Vec-sync Box-sync in
    recorded_sync (Expr.the_field).row _ _ (Expr.the_type).to_one inside

kind_send : IsSend (UnitKind.the_field).row
kind_send =
    let initially = option.the_field_send u32 number_send in
    let rules = list.the_send _ rule.the_send in
    let exprs = list.the_send _ expr_send in
    search sendable depth 20

kind_sync : IsSync (UnitKind.the_field).row
kind_sync =
    let initially = option.the_field_sync u32 number_sync in
    let rules = list.the_sync _ rule.the_sync in
    let exprs = list.the_sync _ expr_sync in
    search sendable depth 20

unit_send : IsSend Unit'.the_row
unit_send =
    let args = list.the_send u32 number_send in
    let kind = kind_send in
    search sendable depth 20

unit_sync : IsSync Unit'.the_row
unit_sync =
    let args = list.the_sync u32 number_sync in
    let kind = kind_sync in
    search sendable depth 20

program_send : IsSend Program.the_row
program_send =
    let windows = plan.the_field_send in
    let domains = list.the_send _ domain.the_send in
    let names = list.the_send _ name.the_send in
    let units = list.the_send _ unit_send in
    let layers = list.the_send _ (list.the_send u32 number_send) in
    search sendable depth 20

program_sync : IsSync Program.the_row
program_sync =
    let windows = plan.the_field_sync in
    let domains = list.the_sync _ domain.the_sync in
    let names = list.the_sync _ name.the_sync in
    let units = list.the_sync _ unit_sync in
    let layers = list.the_sync _ (list.the_sync u32 number_sync) in
    search sendable depth 20

inside_sync : IsSync Inside.the_row
inside_sync =
    let alloc = heap.the_field_sync in
    let program = Arc-sync _ program_send program_sync in
    let history = Vec-sync _ entry.the_sync in
    let rows = cache.the_sync in
    let events = store.the_sync in
    let words = ahead.the_sync in
    let opening = Vec-sync _ (option.the_sync u32 number_sync) in
    let counts = Vec-sync _ (option.the_sync u64 count_sync) in
    search sendable depth 20

pub reviser_sync : IsSync Reviser.the_row
reviser_sync = view_sync Inside.the_row _ _ _ _ inside_sync
