use Rattle.std.proofs.Common.{rules, refl}
use Rattle.event_store.proofs.Turning.{above, kept_where_some, slid_standing, slid_stood}
use Rattle.event_store.proofs.store.EventStore.slide.Goals as goal

pub returns : goal.returns
returns c =
    let old = c.self.inside.by_event.entries in
    let walked = kept_where_some _ (above c.args.w) _ (λ k v b w f' t. search rules) refl old _
    c.is_unique.ensures c.retain.ensures.filtered in
    rw (← c.self.view_is) (record {
      standing = slid_standing c.args.w old c.retain.new.self.entries walked;
      settled = slid_stood c.args.w old c.retain.new.self.entries walked;
    })
