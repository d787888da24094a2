-- The laid-out memory. Reading order:
-- how long its parts are;
pub mod LayoutLaws
-- the walk that copies each record and marks where it stands;
pub mod RecordWalk
-- clearing, copying and marking lay the memory out.
pub mod LayingOut
