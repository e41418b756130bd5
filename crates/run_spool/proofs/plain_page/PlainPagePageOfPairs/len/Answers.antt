use Rattle.std.proofs.Common.{sym, ap, ◌∙◌, length}
use Rattle.run_spool.specs.Pages.{PageValue}
use Rattle.run_spool.proofs.Marked.{pairs_count}
use Rattle.run_spool.proofs.plain_page.PlainPagePageOfPairs.len.Goals as goal

pub returns : goal.returns
returns c = sym (pairs_count c.self.inside.page.bytes.value c.self.inside.marks) ∙ ap (λ (p : PageValue). length p.pairs) c.self.view_is
