-- The pages of a bucket as the cursor goes along them: what they show, in order, and the bucket's elements in order.
use Rattle.std.specs.Prelude.{List}
use Rattle.bolt_format.specs.Elements.{LeafElement}
use Rattle.bolt_check.specs.Sound.{HasSoundTrees}
use Rattle.bolt_tree.specs.{BucketViews.BucketView, Entries.IsStart, Private.Contents.Content, Private.Contents.Contents, Private.Contents.content_at}
use Rattle.bolt_tree.specs.Private.Tours.{TourPage, content_at_start, tour_elements, pages_at}

-- a bucket is one of a sound tree
pub record IsSoundBucket (b : BucketView) : Type 0 where
  pub trees : HasSoundTrees b.file b.meta
  pub start : IsStart b.file b.meta b.start

abbrev pub contents_in : BucketView → Contents
contents_in b = content_at b.file b.meta

abbrev pub root_content : BucketView → Content
root_content b = content_at_start (contents_in b) b.start

abbrev pub tour_pages_in : BucketView → List TourPage
tour_pages_in b = pages_at b.file b.meta b.start

abbrev pub elements_in : BucketView → List LeafElement
elements_in b = tour_elements (tour_pages_in b)
