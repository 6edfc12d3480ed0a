use Rattle.key_ids.specs.Base.{rsync_scheme}
use Rattle.issue_values.proofs.UriTexts.{anchor-uri, cert-uri, roa-uri}
use Rattle.issue_values.proofs.uris.can_be_named.Goals as goal

pub returns-clause-anchor : goal.returns-clause-anchor
returns-clause-anchor c = anchor-uri c.args.site.now rsync_scheme c.are_bases.ensures.rsync

pub returns-clause-certificate : goal.returns-clause-certificate
returns-clause-certificate c = λ name key is. cert-uri c.args.site.now rsync_scheme name key c.are_bases.ensures.rsync is

pub returns-clause-roa : goal.returns-clause-roa
returns-clause-roa c = λ name origin is. roa-uri c.args.site.now rsync_scheme name origin c.are_bases.ensures.rsync is
