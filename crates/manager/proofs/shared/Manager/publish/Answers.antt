use Rattle.manager.proofs.shared.Manager.publish.Goals as goal

pub returns : goal.returns
returns g c = (
  c.now-now.result,
  c.now-now.ensures,
  record {
    learned = c.publish_held-published.ensures.learned;
    published = c.publish_held-published.ensures.published;
    later = c.publish_held-published.ensures.later;
    newly = c.publish_held-published.ensures.newly;
    unpublished = c.publish_held-published.ensures.refused;
    cause = c.publish_held-published.ensures.cause;
  },
)
