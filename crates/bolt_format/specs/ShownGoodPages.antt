-- What a page of the code shows.
use Rattle.bolt_format.specs.{Pages.PageView, Pages.view_of, declared.good_page.Page.Page}

unfoldable pub shown : Page → PageView
shown page = view_of page.kind page.count page.overflow page.span.now
